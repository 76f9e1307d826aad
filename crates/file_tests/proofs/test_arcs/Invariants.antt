-- `file_tests::test_arcs` meets its contract. The loop's invariant: no record so far has a fault.
-- Assumes nothing.
use Rattle.std.proofs.Common.{ℕ, ◌<◌, ◌≡◌}
use Rattle.std.proofs.Math.Option.{none}
use Rattle.file_tests.specs.FileFaults.{arc_fault}
use Rattle.file_tests.proofs.test_arcs.Given as goal

abbrev pub invariant-loop-i : goal.invariant-loop-i
invariant-loop-i l = (j : ℕ) → j < l.i → arc_fault l.arcs l.file j ≡ none
