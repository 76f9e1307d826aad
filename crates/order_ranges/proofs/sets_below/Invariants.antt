-- `order_ranges::sets_below` meets its contract. The loop's invariant: of the sets at the positions so far those below the number are kept.
-- Assumes nothing.
use Rattle.order_ranges.specs.laws.Kept.{Kept}
use Rattle.order_ranges.proofs.sets_below.Given as goal

abbrev pub invariant-loop-position : goal.invariant-loop-position
invariant-loop-position l = Kept l.size l.position l.count l.sets
