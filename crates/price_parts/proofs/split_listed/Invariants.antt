-- `price_parts::split_listed` meets its contract. The loop's invariant: the prices of the first i listed legs are split.
-- Assumes nothing.
use Rattle.std.proofs.Common.{length}
use Rattle.price_parts.specs.Splitting.{ListedSplit}
use Rattle.price_parts.proofs.split_listed.Given as goal

abbrev pub invariant-loop-i : goal.invariant-loop-i
invariant-loop-i l = ListedSplit l.listing.file.now l.i l.ends l.weights l.served (length l.fn.shares) l.shares l.unpaid
