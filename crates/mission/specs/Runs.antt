-- What is lent to the engine and to the plan reader, and what a run of each gives: an answer, by what is stated of it, and everything that was
-- lent as it is afterwards; what is given by the opening of a sheet. The tables lent to the one are not those lent to the other. What is lent is
-- changed by the names of its fields, here.
-- Assumes nothing.
use Rattle.std.specs.Prelude.{ℕ, ◌≡◌, List, length}
use Rattle.answer.specs.Stated.{Stated, plan}
use Rattle.sheet.specs.Verdict.{good, verdict}
use Rattle.records.specs.declared.record.Record.{Record}
use Rattle.lent_tables.specs.SheetTables.{SheetTables}
use Rattle.lent_tables.specs.IndexTables.{IndexTables}
use Rattle.opener.specs.Opening.{SheetOpening, by_opening}
use Rattle.lent_tables.specs.Lengths.{marks_only, search_lengths, AllLong}
use Rattle.lent_tables.specs.declared.FurtherLengths.{FurtherLengths}

-- what a run gives
pub record Run (Lent : Type 0) : Type 0 where
  pub answer : Stated
  pub after : Lent

abbrev pub run : {Lent : Type 0} → Stated → Lent → Run Lent
run answer after = record { answer = answer; after = after }

-- what an entry point gives by the opening of its sheet: a refusal, 1 to 11, touches nothing; else what is done with the sheet
abbrev pub run_opened : {Lent : Type 0} → Lent → ((n k : ℕ) → List Record → Run Lent) → SheetOpening → Run Lent
run_opened t next = by_opening (λ refusal. run refusal t) next

-- "The engine plans a sheet when it answers with a plan."
abbrev pub Plans : Stated → Type 0
Plans answer = (root : ℕ) × (cost : ℕ) × (count : ℕ) × (answer ≡ plan root cost count)

-- the sheet is good, and P holds of its sites, stations and records
pub record GoodWith (sheet : List ℕ) (P : (n k : ℕ) → List Record → Type 0) : Type 0 where
  pub n : ℕ
  pub k : ℕ
  pub records : List Record
  pub good_sheet : verdict sheet ≡ good n k records
  pub holds : P n k records

-- ---- the plan reader

-- "all the tables but the cells": leg starts, leg ends, leg prices and landing sets; marks
pub record ReaderTables : Type 0 where
  pub tables : SheetTables
  pub marks : List ℕ

abbrev pub reader_tables : SheetTables → List ℕ → ReaderTables
reader_tables tables marks = record { tables = tables; marks = marks }

-- with other tables that hold a sheet
abbrev pub with_reader_sheet : SheetTables → ReaderTables → ReaderTables
with_reader_sheet tables t = record { tables = tables; marks = t.marks }

-- beside the tables that hold a sheet it needs the marks
abbrev pub reader_further : ReaderTables → FurtherLengths
reader_further t = marks_only (length t.marks)

-- its tables are long enough for n sites, k stations and so many legs
abbrev pub ReaderLong : (n k arc_count : ℕ) → ReaderTables → Type 0
ReaderLong n k arc_count t = AllLong n k arc_count t.tables (reader_further t)

-- a plan reader takes a sheet, a plan file and the tables lent to it
abbrev pub Reader : Type 0
Reader = (sheet file : List ℕ) → ReaderTables → Run ReaderTables

-- ---- the engine

-- leg starts, leg ends, leg prices and landing sets; leg numbers by end and starting places (document 02, W-202); cells; marks; and the plan buffer
pub record EngineTables : Type 0 where
  pub tables : SheetTables
  pub index : IndexTables
  pub cells : List ℕ
  pub marks : List ℕ
  pub buffer : List ℕ

abbrev pub engine_tables : SheetTables → IndexTables → (cells marks buffer : List ℕ) → EngineTables
engine_tables tables index cells marks buffer = record { tables = tables; index = index; cells = cells; marks = marks; buffer = buffer }

-- with other tables that hold a sheet, or with another plan buffer
abbrev pub with_sheet : SheetTables → EngineTables → EngineTables
with_sheet tables t = record { tables = tables; index = t.index; cells = t.cells; marks = t.marks; buffer = t.buffer }

abbrev pub with_buffer : List ℕ → EngineTables → EngineTables
with_buffer buffer t = record { tables = t.tables; index = t.index; cells = t.cells; marks = t.marks; buffer = buffer }

-- beside the tables that hold a sheet it needs those of the search: the index, the cells and the marks; the plan buffer is no needed table
abbrev pub engine_further : EngineTables → FurtherLengths
engine_further t = search_lengths (length t.index.by_end) (length t.index.places) (length t.cells) (length t.marks)

-- its tables are long enough for n sites, k stations and so many legs
abbrev pub EngineLong : (n k arc_count : ℕ) → EngineTables → Type 0
EngineLong n k arc_count t = AllLong n k arc_count t.tables (engine_further t)

-- an engine takes a sheet and what is lent to it
abbrev pub Engine : Type 0
Engine = (sheet : List ℕ) → EngineTables → Run EngineTables
