-- The tables of the index, filled (document 02, W-202): "An index beside the leg tables lists leg numbers, one entry a leg, grouped by end ..", by
-- `byEnd` and `places` of crate arc_index, of a graph's arcs; later entries are untouched.
-- Assumes nothing.
use Rattle.lists.specs.Over.{over}
use Rattle.arc_index.specs.Index.{by_end, places}
use Rattle.lent_tables.specs.IndexTables.{IndexTables}
use Rattle.graph.specs.Graph.{Graph}

abbrev pub indexed : Graph → IndexTables → IndexTables
indexed G t = record {
  by_end = over (by_end G.nodes G.arcs G.end) t.by_end;
  places = over (places G.nodes G.arcs G.end) t.places;
}
