-- What the contracts speak of: see proofs/laws/Best.antt.
-- Assumes nothing.
use Rattle.std.specs.Prelude.{ℕ, ◌≤◌, ◌≡◌, ◌≢◌}
use Rattle.std.proofs.Math.Option.{Option}
use mathlib.Core.List.{List}
use Rattle.limits.specs.Limits.{max_nodes, max_arcs, no_cost}
use Rattle.answer.specs.Stated.{Stated}
use Rattle.cost_table.specs.Cheapest.{LowestTo}
use Rattle.lent_tables.specs.SheetTables.{SheetTables}
use Rattle.layout_walk.specs.Plan.{Ready}
use Rattle.layout.specs.Root.{full_cell_in}
use Rattle.mission.specs.Runs.{EngineTables, with_buffer, run}
use Rattle.best_plan.specs.Plan.{Plan, sent_back}

-- a plan or none is sent back, with the plan buffer as it then is, whatever the other tables hold
pub record SentBack (o : Option Plan) (answer : Stated) (before after : List ℕ) : Type 0 where
  pub sent : (t : EngineTables) → run answer (with_buffer after t) ≡ sent_back o (with_buffer before t)

-- tables that hold a graph within the limits of a sheet, and its finished cost table
pub record FinishedSheet (n k m : ℕ) (t : SheetTables) (cells : List ℕ) : Type 0 where
  pub some_node : 1 ≤ n
  pub few_nodes : n ≤ max_nodes
  pub few_arcs : m ≤ max_arcs
  pub ready : Ready n k m t cells

-- the root, with its full-set cell, as that of a sender, which is finite
pub record FiniteRoot (n k : ℕ) (cells landings : List ℕ) (root cost : ℕ) : Type 0 where
  pub lowest : LowestTo (full_cell_in k cells landings) n root
  pub of_root : cost ≡ full_cell_in k cells landings root
  pub some_cost : cost ≢ no_cost
