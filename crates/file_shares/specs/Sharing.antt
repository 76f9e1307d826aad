-- The answer to a plan file with shares against a graph, and the share table afterwards (document 02, W-204): "Refusals and tables are the plan
-- reader's; a share table .. , and its first k entries are written only on acceptance."
-- Assumes nothing.
use Rattle.std.specs.Prelude.{ℕ, List}
use Rattle.lists.specs.Over.{over}
use Rattle.answer.specs.Stated.{Stated, plan, shared, cell, sender, no_sender, refused}
use Rattle.graph.specs.Graph.{Graph}
use Rattle.planfile.specs.Format.{arcs_in}
use Rattle.plan_shares.specs.Shares.{shares_of, unassigned}
use Rattle.file_reader.specs.FileAnswer.{answer_to}

-- by the plan reader's answer: its acceptance has the unassigned sum too, and its refusals stay
abbrev pub with_unassigned : Graph → List ℕ → Stated → Stated
with_unassigned G file (plan root cost count) = shared root cost count (unassigned G root (arcs_in file))
with_unassigned G file (refused family number place) = refused family number place
with_unassigned G file (shared root cost count rest) = shared root cost count rest
with_unassigned G file (cell cost) = cell cost
with_unassigned G file (sender node) = sender node
with_unassigned G file no_sender = no_sender

-- "its first k entries are written only on acceptance"
abbrev pub shares_by : Graph → (file shares : List ℕ) → Stated → List ℕ
shares_by G file shares (plan root cost count) = over (shares_of G root (arcs_in file)) shares
shares_by G file shares (refused family number place) = shares
shares_by G file shares (shared root cost count rest) = shares
shares_by G file shares (cell cost) = shares
shares_by G file shares (sender node) = shares
shares_by G file shares no_sender = shares

-- the answer to a file, and the share table after it
abbrev pub sharing_to : Graph → List ℕ → Stated
sharing_to G file = with_unassigned G file (answer_to G file)

abbrev pub shares_after : Graph → (file shares : List ℕ) → List ℕ
shares_after G file shares = shares_by G file shares (answer_to G file)
