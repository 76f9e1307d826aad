-- The plan reader's answer to a sheet, a plan file and all the tables but the cells, and every table afterwards (document 01, "The plan file"
-- and "What is sent back"): "Plan reader: sheet, 11, file under 10 bytes (14), `PN` (15), root (16), short (14), left over (15), then each
-- leg's mark (15) and number (16), then 17, 18, 19."; 20 "comes after 17 and before 18" (document 02, W-201). The answer to a file against the
-- sheet's graph is defined in crate file_reader.
-- Assumes nothing.
use Rattle.std.specs.Prelude.{ℕ, List}
use Rattle.records.specs.declared.record.Record.{Record}
use Rattle.record_tables.specs.Loaded.{loaded}
use Rattle.opener.specs.Opening.{sheet_opening}
use Rattle.network.specs.Network.{graph_of}
use Rattle.mission.specs.Runs.{ReaderTables, reader_tables, reader_further, Run, run, run_opened}
use Rattle.file_reader.specs.FileAnswer.{answer_to, marks_after}

-- "from 14 on and on acceptance, has filled the leg and landing tables"
abbrev pub read_against : ℕ → ℕ → List Record → List ℕ → ReaderTables → Run ReaderTables
read_against n k records file t =
    run (answer_to (graph_of n k records) file)
    (reader_tables (loaded n records t.tables) (marks_after (graph_of n k records) file t.marks))

-- by the opening of the sheet: a refusal, 1 to 11, which touches nothing; or the file is read against the sheet. Rules.antt has the cases, one law
-- each.
abbrev pub reading_of : (sheet file : List ℕ) → ReaderTables → Run ReaderTables
reading_of sheet file t =
    run_opened t (λ n k records. read_against n k records file t) (sheet_opening sheet t.tables (reader_further t))
