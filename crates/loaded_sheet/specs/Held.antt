-- The tables that hold a sheet, as the struct has them, and the graph that they hold.
-- Assumes nothing.
use Rattle.lent_tables.specs.SheetTables.{SheetTables, sheet_tables}
use Rattle.graph.specs.Graph.{Graph}
use Rattle.graph.specs.HeldGraph.{graph_in}
use Rattle.loaded_sheet.specs.declared.LoadedSheet.{LoadedSheet}

abbrev pub tables_of : LoadedSheet → SheetTables
tables_of s = sheet_tables s.starts.now s.ends.now s.weights.now s.landings.now

abbrev pub graph_of : LoadedSheet → Graph
graph_of s = graph_in s.counts.n s.counts.k s.counts.arcs (tables_of s)
