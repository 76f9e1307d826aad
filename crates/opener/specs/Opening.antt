-- What the opening of a sheet comes to (document 01, "What is sent back"): the sheet's refusal, 1 to 10; 11, "a needed table is too short"; or
-- the sheet. "1 to 11 touch nothing"; an opened sheet stands in the tables.
-- Assumes nothing.
use Rattle.std.specs.Prelude.{ℕ, Bool, cond, List, length, Result, Ok, Err}
use Rattle.limits.specs.Refusals.{short_tables}
use Rattle.answer.specs.Stated.{Stated, refused, of_tables, stated_sheet, stated_refusal}
use Rattle.answer.specs.declared.Refusal.{Refusal}
use Rattle.lent_tables.specs.SheetTables.{SheetTables}
use Rattle.records.specs.Arcs.{arcs}
use Rattle.sheet.specs.Verdict.{Verdict, good, bad, verdict}
use Rattle.records.specs.declared.record.Record.{Record}
use Rattle.record_tables.specs.Loaded.{loaded}
use Rattle.lent_tables.specs.Lengths.{are_long}
use Rattle.lent_tables.specs.declared.FurtherLengths.{FurtherLengths}
use Rattle.limits.specs.declared.Counts.{Counts}
use Rattle.limits.specs.Counts.{counts}

-- a refusal, 1 to 11, or a good sheet with its sites, stations and records
pub data SheetOpening : Type 0 where
  refuses : Stated → SheetOpening
  opens : (n k : ℕ) → List Record → SheetOpening

-- by the verdict, and by a test of the lengths for n sites, k stations and so many legs
abbrev pub by_verdict : ((n k arc_count : ℕ) → Bool) → Verdict → SheetOpening
by_verdict long (good n k records) = cond (long n k (length (arcs records))) (opens n k records) (refuses (refused of_tables short_tables 0))
by_verdict long (bad fault) = refuses (stated_sheet fault)

-- the opening of a byte string with these tables
abbrev pub sheet_opening : List ℕ → SheetTables → FurtherLengths → SheetOpening
sheet_opening bytes t f = by_verdict (λ n k m. are_long n k m t f) (verdict bytes)

-- what an entry point comes to: a refusal of the opening, or what is done with the sheet
module _ {A : Type 0} (refuse : Stated → A) (next : (n k : ℕ) → List Record → A) where
  abbrev pub by_opening : SheetOpening → A
  by_opening (refuses refusal) = refuse refusal
  by_opening (opens n k records) = next n k records

-- ---- what the opener returns, and the tables afterwards

-- the sites, the stations and the number of legs of the sheet, or the refusal's family, number and place
pub data Returned : Type 0 where
  sheet : (n k arc_count : ℕ) → Returned
  refusal : Stated → Returned

abbrev pub returned : Result Counts Refusal → Returned
returned (Ok c) = sheet c.n c.k c.arcs
returned (Err r) = refusal (stated_refusal r)

pub record Outcome : Type 0 where
  pub result : Returned
  pub after : SheetTables

abbrev pub outcome : Returned → SheetTables → Outcome
outcome result after = record { result = result; after = after }

-- "1 to 11 touch nothing"; the tables hold an opened sheet
abbrev pub loaded_as : SheetTables → SheetOpening → Outcome
loaded_as t = by_opening (λ r. outcome (refusal r) t) (λ n k records. outcome (sheet n k (length (arcs records))) (loaded n records t))

abbrev pub loading_of : List ℕ → SheetTables → FurtherLengths → Outcome
loading_of bytes t f = loaded_as t (sheet_opening bytes t f)
