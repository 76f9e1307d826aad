-- The planning of a sheet from its opening on: what the plan of the graph that the tables hold sends back, and a refusal of the opening.
-- Assumes nothing.
use Rattle.std.specs.Prelude.{ℕ, ◌≡◌, List, replicate}
use Rattle.std.proofs.Common.{sym, ap, ◌∙◌, subst}
use Rattle.limits.specs.Limits.{no_cost}
use Rattle.lists.specs.Over.{over}
use Rattle.answer.specs.Stated.{Stated}
use Rattle.number_fields.specs.Fields.{Bytes}
use Rattle.lent_tables.specs.SheetTables.{SheetTables}
use Rattle.lent_tables.specs.IndexTables.{IndexTables}
use Rattle.graph.specs.Graph.{Graph}
use Rattle.graph.specs.HeldGraph.{graph_in}
use Rattle.cost_table.specs.Cells.{cost_table}
use Rattle.opener.specs.Opening.{refuses, sheet_opening}
use Rattle.opener.specs.laws.Opened.{OpenedSheet}
use Rattle.network.proofs.HeldSheet.{opened_graph}
use Rattle.network.specs.Indexed.{indexed}
use Rattle.mission.specs.Runs.{EngineTables, engine_tables, with_sheet, engine_further, run}
use Rattle.best_plan.specs.Plan.{plan_of}
use Rattle.engine.specs.Engine.{searched, planning_of}
use Rattle.engine.specs.laws.Rules.{given}
use Rattle.best_plan.specs.laws.Best.{SentBack}

module _ (s : List ℕ) (t : EngineTables) where
  -- 1 to 11
  pub refusal_sent : {refusal : Stated} {after : SheetTables}
      → (sheet_opening s t.tables (engine_further t) ≡ refuses refusal) × (after ≡ t.tables)
      → run refusal (with_sheet after t) ≡ planning_of s t
  refusal_sent {refusal} (opening, kept) =
      ap (λ (x : SheetTables). run refusal (with_sheet x t)) kept ∙ sym (ap (given s t) opening)

  -- the sheet is planned
  pub whole_sent : Bytes s → {after : SheetTables} {n k m : ℕ} → OpenedSheet s t.tables after (engine_further t) n k m
      → (answer : Stated) (index : IndexTables) (cells marks buffer : List ℕ) → index ≡ indexed (graph_in n k m after) t.index
      → cells ≡ over (cost_table (graph_in n k m after) no_cost) t.cells
      → marks ≡ over (replicate n 1) t.marks → SentBack (plan_of (graph_in n k m after)) answer t.buffer buffer
      → run answer (engine_tables after index cells marks buffer) ≡ planning_of s t
  whole_sent bytes {after} {n} {k} {m} o answer index cells marks buffer listed costs marked sent =
      let same = opened_graph s bytes t.tables after (engine_further t) n k m o in
      (λ i. run answer (engine_tables (o.holds i)
      ((listed ∙ ap (λ (G : Graph). indexed G t.index) same) i)
      ((costs ∙ ap (λ (G : Graph). over (cost_table G no_cost) t.cells) same) i) (marked i) buffer))
      ∙ (subst (λ (G : Graph). SentBack (plan_of G) answer t.buffer buffer) same sent).sent (searched n k o.judged.records t)
      ∙ sym (ap (given s t) o.opening)
