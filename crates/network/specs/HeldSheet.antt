-- Tables that hold a sheet: what a function over them may ask. An opened sheet is held by its tables, and the graph that they hold is that of the
-- sheet.
-- Assumes nothing.
use Rattle.std.specs.Prelude.{ℕ, ◌≤◌, ◌<◌}
use Rattle.limits.specs.Limits.{min_nodes, max_nodes, min_terminals, max_terminals, max_arcs, max_weight, no_cost}
use Rattle.lent_tables.specs.SheetTables.{SheetTables}
use Rattle.graph.specs.Graph.{Sound}
use Rattle.graph.specs.HeldGraph.{graph_in}
use Rattle.graph.specs.LeastTotals.{Room}
use Rattle.lent_tables.specs.Lengths.{AllLong}
use Rattle.lent_tables.specs.declared.FurtherLengths.{FurtherLengths}

-- the tables hold a graph of n nodes, k terminals and m arcs within the limits of a sheet, and all needed tables are long enough
pub record HeldSheet (n k m : ℕ) (t : SheetTables) (f : FurtherLengths) : Type 0 where
  pub nodes : (min_nodes ≤ n) × (n ≤ max_nodes)
  pub terminals : (min_terminals ≤ k) × (k ≤ max_terminals)
  pub few_arcs : m ≤ max_arcs
  pub sound : Sound (graph_in n k m t)
  pub weights_low : (e : ℕ) → e < m → (graph_in n k m t).weight e ≤ max_weight
  pub room : Room (graph_in n k m t) no_cost
  pub long : AllLong n k m t f
