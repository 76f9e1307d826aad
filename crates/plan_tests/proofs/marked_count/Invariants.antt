-- `plan_tests::marked_count` meets its contract. The loop's invariant: the marks of the sites before the index are counted.
-- Assumes nothing.
use Rattle.std.proofs.Common.{◌≤◌, ◌≡◌, eqb, get_or}
use Rattle.lists.specs.Count.{bit}
use Rattle.lists.specs.Sums.{sum_to}
use Rattle.plan_tests.proofs.marked_count.Given as goal

abbrev pub invariant-loop-mark : goal.invariant-loop-mark
invariant-loop-mark l = (l.count ≤ l.mark-index) × (l.count ≡ sum_to l.mark-index (λ u. bit (eqb (get_or l.marks u 0) 1)))
