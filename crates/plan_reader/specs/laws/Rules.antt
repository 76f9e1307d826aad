-- The cases of the plan reader's answer, one law each: a refused sheet, 11, a fault of the file by itself, one against the sheet, and an
-- acceptance, each with every table afterwards.
-- Assumes nothing.
use Rattle.std.specs.Prelude.{ℕ, ◌≡◌, refl, List, length}
use Rattle.std.proofs.Common.{ap, ap₂}
use Rattle.std.proofs.Math.Option.{Option, none, some}
use Rattle.limits.specs.Refusals.{short_tables}
use Rattle.lists.specs.Over.{over}
use Rattle.answer.specs.Stated.{plan, refused, of_tables, stated_sheet, stated_plan_file}
use Rattle.answer.specs.declared.PlanFault.{PlanFault}
use Rattle.answer.specs.declared.SheetFault.{SheetFault}
use Rattle.records.specs.Arcs.{arcs}
use Rattle.sheet.specs.Verdict.{good, bad, verdict}
use Rattle.records.specs.declared.record.Record.{Record}
use Rattle.record_tables.specs.Loaded.{loaded}
use Rattle.opener.specs.Opening.{SheetOpening}
use Rattle.opener.specs.laws.Cases.{opening_bad, opening_short, opening_good}
use Rattle.network.specs.Network.{graph_of}
use Rattle.planfile.specs.Format.{root_in, total_in, count_in, arcs_in}
use Rattle.mission.specs.Runs.{ReaderTables, reader_tables, reader_further, ReaderLong, Run, run, run_opened}
use Rattle.file_tests.specs.FileFaults.{file_fault, or_else}
use Rattle.reaching.specs.Marks.{marks_of}
use Rattle.plan_tests.specs.PlanFaults.{tree_fault}
use Rattle.file_reader.specs.FileAnswer.{answered, marks_by}
use Rattle.plan_reader.specs.Reader.{read_against, reading_of}

module _ (sheet file : List ℕ) (t : ReaderTables) where
  -- the run of an opening
  abbrev pub given : SheetOpening → Run ReaderTables
  given = run_opened t (λ n k records. read_against n k records file t)

  -- 1 to 10 touch nothing
  pub sheet_refused : (fault : SheetFault) → verdict sheet ≡ bad fault → reading_of sheet file t ≡ run (stated_sheet fault) t
  sheet_refused fault e = ap given (opening_bad sheet t.tables (reader_further t) fault e)

  module _ (n k : ℕ) (records : List Record) (e : verdict sheet ≡ good n k records) where
    -- 11 touches nothing
    pub tables_short : (ReaderLong n k (length (arcs records)) t → ⊥) → reading_of sheet file t ≡ run (refused of_tables short_tables 0) t
    tables_short short = ap given (opening_short sheet t.tables (reader_further t) n k records e short)

    -- with long enough tables the file is read
    pub file_read : ReaderLong n k (length (arcs records)) t → reading_of sheet file t ≡ read_against n k records file t
    file_read long = ap given (opening_good sheet t.tables (reader_further t) n k records e long)

module _ (n k : ℕ) (records : List Record) (file : List ℕ) (t : ReaderTables) where
  -- the leg and landing tables are filled, and the marks are these
  abbrev pub filled_with : List ℕ → ReaderTables
  filled_with marks = reader_tables (loaded n records t.tables) marks

  -- the marks of the sites that the listed legs reach, over those that stood there before
  abbrev pub reached_marks : List ℕ
  reached_marks = over (marks_of (graph_of n k records) (arcs_in file) (root_in file)) t.marks

  -- the run, by the first fault of the file by itself and the first against the sheet
  by_faults : (own against : Option PlanFault) → file_fault n (length (arcs records)) file ≡ own → tree_fault (graph_of n k records) file ≡ against
      → read_against n k records file t ≡ run (answered (or_else own against) file) (filled_with (marks_by own (graph_of n k records) file t.marks))
  by_faults own against a b =
      ap₂ (λ (x y : Option PlanFault). run (answered (or_else x y) file) (filled_with (marks_by x (graph_of n k records) file t.marks))) a b

  -- 14 to 16: the marks are untouched
  pub file_refused : (fault : PlanFault) → file_fault n (length (arcs records)) file ≡ some fault
      → read_against n k records file t ≡ run (stated_plan_file fault) (filled_with t.marks)
  file_refused fault e = by_faults (some fault) (tree_fault (graph_of n k records) file) e refl

  -- 17, 20, 18 and 19
  pub plan_refused : (fault : PlanFault) → file_fault n (length (arcs records)) file ≡ none → tree_fault (graph_of n k records) file ≡ some fault
      → read_against n k records file t ≡ run (stated_plan_file fault) (filled_with reached_marks)
  plan_refused fault e f = by_faults none (some fault) e f

  -- acceptance
  pub plan_accepted : file_fault n (length (arcs records)) file ≡ none → tree_fault (graph_of n k records) file ≡ none
      → read_against n k records file t ≡ run (plan (root_in file) (total_in file) (count_in file)) (filled_with reached_marks)
  plan_accepted e f = by_faults none none e f
