-- The test of a part in one step of the layout, over what the cells hold (document 01, "Laying out a plan"). It is a test of the graph in the
-- tables; the parts of the graph that it does not look at are left empty.
-- Assumes nothing.
use Rattle.std.specs.Prelude.{ℕ, ◌^◌, Bool, List, []}
use Rattle.lent_tables.specs.SheetTables.{arcs_alone}
use Rattle.graph.specs.HeldGraph.{graph_in}
use Rattle.graph.specs.Layout.{splits}
use Rattle.cost_table.specs.Cells.{cell_in}

-- y splits w at v
abbrev pub splits_in : (k : ℕ) → List ℕ → (v w y : ℕ) → Bool
splits_in k cells = splits (graph_in 0 k 0 (arcs_alone [] [] [])) (cell_in cells (2 ^ k))
