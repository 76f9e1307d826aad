-- What a search asks of the tables that hold a sheet.
-- Assumes nothing.
use Rattle.std.specs.Prelude.{ℕ, ◌≤◌, ◌<◌}
use Rattle.limits.specs.Limits.{max_nodes, max_terminals, max_arcs, max_weight}
use Rattle.lent_tables.specs.SheetTables.{SheetTables, Long}
use Rattle.graph.specs.Graph.{Sound}
use Rattle.graph.specs.HeldGraph.{graph_in}

-- tables that hold a graph of n nodes, k terminals and m arcs, within the limits of a sheet
pub record Searchable (n k m : ℕ) (t : SheetTables) : Type 0 where
  pub few_nodes : n ≤ max_nodes
  pub few_terminals : k ≤ max_terminals
  pub few_arcs : m ≤ max_arcs
  pub long : Long n m t
  pub sound : Sound (graph_in n k m t)
  pub weights_low : (e : ℕ) → e < m → (graph_in n k m t).weight e ≤ max_weight
