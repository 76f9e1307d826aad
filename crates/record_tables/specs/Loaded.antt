-- What the lent tables hold after the loading of a sheet (document 01, "The cost table"): "the first entries of these hold the legs in order, each
-- site's set of stations, ..; later entries are untouched." The flag of a sender joins the entry of its site (document 02, W-201).
-- Assumes nothing.
use Rattle.std.specs.Prelude.{ℕ, List, map}
use Rattle.lists.specs.Over.{over}
use Rattle.lent_tables.specs.SheetTables.{SheetTables}
use Rattle.records.specs.Arcs.{Arc, arcs}
use Rattle.records.specs.Senders.{landing_entries}
use Rattle.records.specs.declared.record.Record.{Record}

-- the first entries hold these legs in order and these landing entries; later entries are untouched
abbrev pub filled : List Arc → List ℕ → SheetTables → SheetTables
filled list entries t = record {
  starts = over (map (λ a. a.start) list) t.starts;
  ends = over (map (λ a. a.end) list) t.ends;
  weights = over (map (λ a. a.weight) list) t.weights;
  landings = over entries t.landings;
}

-- the tables that hold a sheet: the legs in order and each site's landing entry
unfoldable pub loaded : ℕ → List Record → SheetTables → SheetTables
loaded n records t = filled (arcs records) (landing_entries n records) t
