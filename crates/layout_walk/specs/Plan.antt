-- The arcs of a plan, and what the laying out of one rests on (document 01, "Laying out a plan").
-- Assumes nothing.
use Rattle.std.specs.Prelude.{ℕ, ◌*◌, ◌^◌, ◌≤◌, List, length}
use Rattle.limits.specs.Limits.{max_terminals, no_cost}
use Rattle.lent_tables.specs.SheetTables.{SheetTables, Long}
use Rattle.graph.specs.Graph.{Graph, Sound}
use Rattle.graph.specs.HeldGraph.{graph_in}
use Rattle.graph.specs.LeastTotals.{IsCostTable, Room}
use Rattle.graph.specs.Layout.{layout}
use Rattle.cost_table.specs.Cells.{cell_in}
use Rattle.layout_steps.specs.Costed.{tables_in}
use Rattle.layout_steps.specs.declared.CostedSheet.{CostedSheet}

-- the cells of a graph's nodes and sets in a list
abbrev pub cells_for : Graph → List ℕ → ℕ → ℕ → ℕ
cells_for G cells = cell_in cells (2 ^ G.terminals)

-- the arcs added at v with w
abbrev pub laid : Graph → List ℕ → (v w : ℕ) → List ℕ
laid G cells = layout G (cells_for G cells) no_cost

-- the cells are the finished cost table of a sound graph, whose totals are all below "none"
pub record Finished (G : Graph) (cells : List ℕ) : Type 0 where
  pub sound : Sound G
  pub room : Room G no_cost
  pub table : IsCostTable G (cells_for G cells) no_cost

-- what the laying out of a plan rests on: tables that are long enough hold a graph and its finished cost table
pub record Ready (n k m : ℕ) (t : SheetTables) (cells : List ℕ) : Type 0 where
  pub some_terminal : 1 ≤ k
  pub terminals : k ≤ max_terminals
  pub long : Long n m t
  pub long_cells : n * 2 ^ k ≤ length cells
  pub finished : Finished (graph_in n k m t) cells

-- it for a sheet with its finished cost table
abbrev pub ReadySheet : CostedSheet → Type 0
ReadySheet s = Ready s.nodes s.terminals s.arcs (tables_in s) s.cells.now
