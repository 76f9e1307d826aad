-- The answer to a plan file against a graph, and the marks afterwards (document 01, "What is sent back"): the file's faults by itself, 14 to 16,
-- come before those against the sheet, 17, 20, 18 and 19.
-- Assumes nothing.
use Rattle.std.specs.Prelude.{ℕ, List}
use Rattle.std.proofs.Math.Option.{Option, none, some}
use Rattle.lists.specs.Over.{over}
use Rattle.answer.specs.Stated.{Stated}
use Rattle.answer.specs.declared.PlanFault.{PlanFault}
use Rattle.graph.specs.Graph.{Graph}
use Rattle.planfile.specs.Format.{root_in, total_in, count_in, arcs_in}
use Rattle.file_tests.specs.FileFaults.{or_else, file_fault}
use Rattle.reaching.specs.Marks.{marks_of}
use Rattle.plan_tests.specs.PlanFaults.{tree_fault, answered_as}

-- "the plan reader's acceptance, return the root, total and leg count that stand in the file"
abbrev pub answered : Option PlanFault → List ℕ → Stated
answered fault file = answered_as fault (root_in file) (total_in file) (count_in file)

-- the answer to a file: its faults by itself come before those against the sheet
abbrev pub answer_to : Graph → List ℕ → Stated
answer_to G file = answered (or_else (file_fault G.nodes G.arcs file) (tree_fault G file)) file

-- "from 17 on and on acceptance"; "before 17 the marks are untouched"
abbrev pub marks_by : Option PlanFault → Graph → List ℕ → List ℕ → List ℕ
marks_by none G file marks = over (marks_of G (arcs_in file) (root_in file)) marks
marks_by (some fault) G file marks = marks

-- the marks after a file: written exactly where it has no fault by itself
abbrev pub marks_after : Graph → List ℕ → List ℕ → List ℕ
marks_after G file marks = marks_by (file_fault G.nodes G.arcs file) G file marks
