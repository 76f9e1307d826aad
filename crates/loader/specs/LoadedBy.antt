-- The lent tables after the loading of a sheet, by its verdict (document 01, "What is sent back"): "1 to 11 touch nothing."
-- Assumes nothing.
use Rattle.lent_tables.specs.SheetTables.{SheetTables}
use Rattle.sheet.specs.Verdict.{Verdict, good, bad}
use Rattle.record_tables.specs.Loaded.{loaded}

-- the tables after the loading of a sheet with this verdict: a refused sheet touches nothing
abbrev pub loaded_by : Verdict → SheetTables → SheetTables
loaded_by (good n k records) t = loaded n records t
loaded_by (bad fault) t = t
