-- `order_ranges::end_of_size` meets its contract. The loop's invariant: the sets from `first` up to `last` have one size.
-- Assumes nothing.
use Rattle.std.proofs.Common.{length}
use Rattle.order_ranges.specs.laws.Ranges.{entry_of, SizeTo}
use Rattle.order_ranges.proofs.end_of_size.Given as goal

abbrev pub invariant-loop-last : goal.invariant-loop-last
invariant-loop-last l = SizeTo (entry_of l.sets) (length l.sets) l.first l.last l.size
