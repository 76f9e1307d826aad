-- The plan of a graph (document 01, "Laying out a plan"), and what is sent back of it with the plan buffer (document 01, "What is sent back"): 12,
-- 13, or the plan.
-- Assumes nothing.
use Rattle.std.specs.Prelude.{ℕ, Bool, true, false, not, ◌||◌, List, leb, eqb, length}
use Rattle.std.proofs.Math.Option.{Option, none, some}
use Rattle.limits.specs.Limits.{no_cost}
use Rattle.limits.specs.Refusals.{no_plan, short_buffer}
use Rattle.lists.specs.Find.{all_to}
use Rattle.lists.specs.Over.{over}
use Rattle.subset.specs.Sets.{full}
use Rattle.answer.specs.Stated.{plan, refused, of_tables, of_search}
use Rattle.graph.specs.Graph.{Graph}
use Rattle.graph.specs.LeastTotals.{least_cell}
use Rattle.graph.specs.Layout.{root_of, layout}
use Rattle.planfile.specs.Format.{file_bytes, file_size}
use Rattle.mission.specs.Runs.{EngineTables, with_buffer, Run, run}

-- ---- the plan of a graph

-- the cell of node v and the full set
abbrev pub full_cell : Graph → ℕ → ℕ
full_cell G v = least_cell G no_cost v (full G.terminals)

-- a plan: its root, its total, and its legs in the order in which they are added
pub record Plan : Type 0 where
  pub root : ℕ
  pub cost : ℕ
  pub arcs : List ℕ

abbrev pub plan_with : (root cost : ℕ) → List ℕ → Plan
plan_with root cost arcs = record { root = root; cost = cost; arcs = arcs }

-- the plan from a root, by the cells of the least totals
abbrev pub plan_from : Graph → ℕ → Plan
plan_from G root = plan_with root (full_cell G root) (layout G (least_cell G no_cost) no_cost root (full G.terminals))

-- "every full-set cell is "none"", of the sites that may be a root: the senders
abbrev pub all_none : Graph → Bool
all_none G = all_to (λ v. not (G.may_root v) || eqb (full_cell G v) no_cost) G.nodes

-- where not every such cell is "none", from "the lowest site whose full-set cell is least", of the same sites
abbrev pub plan_at : Graph → Option ℕ → Option Plan
plan_at G none = none
plan_at G (some root) = some (plan_from G root)

abbrev pub plan_unless : Bool → Graph → Option Plan
plan_unless true G = none
plan_unless false G = plan_at G (root_of G (least_cell G no_cost))

unfoldable pub plan_of : Graph → Option Plan
plan_of G = plan_unless (all_none G) G

-- ---- what is sent back

-- "`PN`, root (2), total (4), leg count (2); then per leg `LG`, leg number (2)"; "Bytes of the plan buffer beyond the file are untouched"
abbrev pub with_file : Plan → EngineTables → EngineTables
with_file p t = with_buffer (over (file_bytes p.root p.cost p.arcs) t.buffer) t

-- 13: "plan longer than its buffer"; else the plan, with "the root, total and leg count that stand in the file"
abbrev pub written : Bool → Plan → EngineTables → Run EngineTables
written true p t = run (plan p.root p.cost (length p.arcs)) (with_file p t)
written false p t = run (refused of_tables short_buffer 0) t

-- 12: no plan
abbrev pub sent_back : Option Plan → EngineTables → Run EngineTables
sent_back none t = run (refused of_search no_plan 0) t
sent_back (some p) t = written (leb (file_size (length p.arcs)) (length t.buffer)) p t
