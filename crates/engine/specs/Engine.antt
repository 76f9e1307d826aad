-- The engine's answer to a sheet, and every table and the plan buffer afterwards (document 01, "The cost table", "Laying out a plan" and "What
-- is sent back"): the sheet's refusals, "Then 11, 12, 13", or the plan.
-- Assumes nothing.
use Rattle.std.specs.Prelude.{ℕ, List, replicate}
use Rattle.limits.specs.Limits.{no_cost}
use Rattle.lists.specs.Over.{over}
use Rattle.records.specs.declared.record.Record.{Record}
use Rattle.record_tables.specs.Loaded.{loaded}
use Rattle.opener.specs.Opening.{sheet_opening}
use Rattle.network.specs.Network.{graph_of}
use Rattle.network.specs.Indexed.{indexed}
use Rattle.cost_table.specs.Cells.{cost_table}
use Rattle.mission.specs.Runs.{EngineTables, engine_further, Run, run_opened}
use Rattle.best_plan.specs.Plan.{plan_of, sent_back}

-- ---- the tables

-- the tables after a plan: "the first entries of these hold the legs in order, each site's set of stations, the costs, and 1 in each mark;
-- later entries are untouched", with the flags of the senders (document 02, W-201); the index of the legs (W-202: "12 and 13 leave them filled");
-- the plan buffer as it was
abbrev pub searched : (n k : ℕ) → List Record → EngineTables → EngineTables
searched n k records t = record {
  tables = loaded n records t.tables;
  index = indexed (graph_of n k records) t.index;
  cells = over (cost_table (graph_of n k records) no_cost) t.cells;
  marks = over (replicate n 1) t.marks;
  buffer = t.buffer;
}

-- ---- the whole

-- by the opening of the sheet: a refusal, 1 to 11, which touches nothing; or the sheet is planned. "12 and 13 leave the tables as after a plan, and
-- the plan buffer untouched."
abbrev pub planning_of : (sheet : List ℕ) → EngineTables → Run EngineTables
planning_of sheet t =
    run_opened t (λ n k records. sent_back (plan_of (graph_of n k records)) (searched n k records t))
    (sheet_opening sheet t.tables (engine_further t))
