-- `price_parts::split_price` meets its contract. The loop's invariant: the price is split over the payers among the first i stations, and these are
-- counted.
-- Assumes nothing.
use Rattle.price_parts.specs.laws.SplittingLaws.{PaidTo}
use Rattle.price_parts.proofs.split_price.Given as goal

abbrev pub invariant-loop-i : goal.invariant-loop-i
invariant-loop-i l = PaidTo l.price l.payers.0 l.initial.shares l.shares l.i l.lower
