-- The tables and the graph that a sheet with its finished cost table holds.
-- Assumes nothing.
use Rattle.lent_tables.specs.SheetTables.{SheetTables, sheet_tables, arc_tables_of}
use Rattle.graph.specs.Graph.{Graph}
use Rattle.graph.specs.HeldGraph.{graph_in}
use Rattle.layout_steps.specs.declared.CostedSheet.{CostedSheet}

abbrev pub tables_in : CostedSheet → SheetTables
tables_in s = sheet_tables s.starts.now s.ends.now s.weights.now s.landings.now

-- its leg tables alone
abbrev pub arc_tables_in : CostedSheet → SheetTables
arc_tables_in s = arc_tables_of (tables_in s)

abbrev pub costed_graph : CostedSheet → Graph
costed_graph s = graph_in s.nodes s.terminals s.arcs (tables_in s)
