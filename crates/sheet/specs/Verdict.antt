-- The verdict on a byte string: a good sheet with its sites, stations and records, or the first refusal of "What is sent back", 1 to 10.
-- Reading goes record by record; the first faulty record decides, and within one the tests stand in document 01's order.
-- Assumes nothing.
use Rattle.std.specs.Prelude.{ℕ, zero, suc, ◌+◌, cond, not, List, [], ◌∷◌, ◌++◌, length, drop, ltb, eqb, Result, Ok, Err, Option, Some, None}
use Rattle.limits.specs.Limits.{min_nodes, max_nodes, min_terminals, max_terminals}
use Rattle.limits.specs.Marks.{mark_hd}
use Rattle.answer.specs.declared.SheetFault.{SheetFault}
use Rattle.answer.specs.declared.SheetFault.TheVariants.{ShortSheet, StrangeMark, BadHead}
use Rattle.number_fields.specs.Fields.{number16}
use Rattle.records.specs.Records.{head_fields, sizes, head_size, size}
use Rattle.records.specs.Arcs.{arcs}
use Rattle.records.specs.Landings.{heard}
use Rattle.reading.specs.Steps.{found_in}
use Rattle.records.specs.declared.fields.Head.{Head}
use Rattle.records.specs.declared.record.Record.{Record}
use Rattle.reading.specs.declared.Reading.{Reading}

-- a good sheet with its sites, stations and records, or the first refusal
pub data Verdict : Type 0 where
  good : (n k : ℕ) → List Record → Verdict
  bad : SheetFault → Verdict

-- ---- the reading state

-- the state after the head and some records
abbrev pub state_after : ℕ → ℕ → List Record → Reading
state_after n k records =
    record { offset = head_size + sizes records; n = n; k = k; arcs = length (arcs records); heard = record { 0 = heard records } }

-- ---- the head: mark, length, 3

abbrev pub head_tests : ℕ → ℕ → Result Reading SheetFault
head_tests n k =
    cond (ltb n min_nodes) (Err (BadHead 0))
    (cond (ltb max_nodes n) (Err (BadHead 0))
    (cond (ltb k min_terminals) (Err (BadHead 0))
    (cond (ltb max_terminals k) (Err (BadHead 0))
    (Ok (state_after n k [])))))

abbrev pub head_found : Option Head → Result Reading SheetFault
head_found None = Err (ShortSheet 0)
head_found (Some h) = head_tests h.n h.k

abbrev pub opening_of : List ℕ → Result Reading SheetFault
opening_of sheet =
    cond (ltb (length sheet) 2) (Err (ShortSheet 0))
    (cond (not (eqb (number16 sheet 0) mark_hd)) (Err (StrangeMark 0))
    (head_found (head_fields (drop 2 sheet))))

-- ---- record after record

-- the verdict where some records have been read and some bytes are left; each turn takes a byte or more, so as many turns as bytes are enough
unfoldable pub read_for : ℕ → ℕ → ℕ → List Record → List ℕ → Verdict
read_for zero n k records bytes = bad (ShortSheet (state_after n k records).offset)
read_for (suc turns) n k records bytes =
    elim (found_in (state_after n k records) bytes) [
      | Ok (Some x) ↦ read_for turns n k (records ++ (x ∷ [])) (drop (size x) bytes)
      | Ok None ↦ good n k records
      | Err f ↦ bad f
    ]

abbrev pub reading : ℕ → ℕ → List Record → List ℕ → Verdict
reading n k records bytes = read_for (length bytes) n k records bytes

abbrev pub after_head : List ℕ → Result Reading SheetFault → Verdict
after_head sheet (Ok r) = reading r.n r.k [] (drop head_size sheet)
after_head sheet (Err f) = bad f

-- the verdict on a byte string
unfoldable pub verdict : List ℕ → Verdict
verdict sheet = after_head sheet (opening_of sheet)
