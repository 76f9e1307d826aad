-- `plan_tests::marked_terminals` meets its contract. The loop's invariant: the stations heard at the marked sites before v.
-- Assumes nothing.
use Rattle.std.proofs.Common.{◌≡◌}
use Rattle.subset.specs.Unions.{union_to}
use Rattle.plan_tests.specs.ByMarks.{terminals_marked}
use Rattle.plan_tests.proofs.marked_terminals.Given as goal

abbrev pub invariant-loop-v : goal.invariant-loop-v
invariant-loop-v l = l.terminals.0 ≡ union_to l.v (terminals_marked l.marks l.landings)
