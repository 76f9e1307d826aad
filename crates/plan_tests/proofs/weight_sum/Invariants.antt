-- `plan_tests::weight_sum` meets its contract. The loop's invariant: the prices of the first i listed legs are added up.
-- Assumes nothing.
use Rattle.std.proofs.Common.{◌≤◌, ◌*◌, ◌^◌, ◌≡◌}
use Rattle.plan_tests.specs.ByMarks.{weight_sum}
use Rattle.plan_tests.proofs.weight_sum.Given as goal

abbrev pub invariant-loop-i : goal.invariant-loop-i
invariant-loop-i l = (l.sum ≤ l.i * 2 ^ 32) × (l.sum ≡ weight_sum l.listing.file.now l.i l.weights)
