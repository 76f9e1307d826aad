-- The lengths that the lent tables need (document 01, "The cost table"): "leg starts, leg ends, leg prices (each at least as long as the number of
-- legs), landing sets (n), cells (n times 2^k), marks (n). .. Tables are long enough when each needed one has at least the length stated for it."
-- The index of the legs by their end (document 02, W-202) has "one entry a leg" and "n + 1 starting places"; "Its two tables are needed tables of the
-- search, not of the plan reader". "a share table under k entries counts in 11" (W-204), of the shares alone.
-- Assumes nothing.
use Rattle.std.specs.Prelude.{ℕ, ◌+◌, ◌*◌, ◌^◌, ◌≤◌, Bool, true, ◌&&◌, leb, length, Option, Some, None}
use Rattle.lent_tables.specs.SheetTables.{SheetTables, Long}
use Rattle.lent_tables.specs.declared.FurtherLengths.{FurtherLengths}

-- ---- the further tables of an entry point

-- none; the marks; the marks and the shares; those of the search, with so many entries
abbrev pub no_further : FurtherLengths
no_further = record { by_end = None; places = None; cells = None; marks = None; shares = None }

abbrev pub marks_only : ℕ → FurtherLengths
marks_only marks = record { by_end = None; places = None; cells = None; marks = Some marks; shares = None }

abbrev pub share_lengths : (marks shares : ℕ) → FurtherLengths
share_lengths marks shares = record { by_end = None; places = None; cells = None; marks = Some marks; shares = Some shares }

abbrev pub search_lengths : (by_end places cells marks : ℕ) → FurtherLengths
search_lengths by_end places cells marks =
    record { by_end = Some by_end; places = Some places; cells = Some cells; marks = Some marks; shares = None }

-- ---- long enough

-- a further table has so many entries, where it is needed
abbrev pub Enough : ℕ → Option ℕ → Type 0
Enough need (Some count) = need ≤ count
Enough need None = Unit {0}

-- the further tables are long enough for n sites, k stations and so many legs
pub record FurtherLong (n k arc_count : ℕ) (f : FurtherLengths) : Type 0 where
  pub by_end : Enough arc_count f.by_end
  pub places : Enough (n + 1) f.places
  pub cells : Enough (n * 2 ^ k) f.cells
  pub marks : Enough n f.marks
  pub shares : Enough k f.shares

-- all needed tables are long enough for n sites, k stations and so many legs
pub record AllLong (n k arc_count : ℕ) (t : SheetTables) (f : FurtherLengths) : Type 0 where
  pub tables : Long n arc_count t
  pub further : FurtherLong n k arc_count f

-- ---- the same as tests

abbrev pub is_enough : ℕ → Option ℕ → Bool
is_enough need (Some count) = leb need count
is_enough need None = true

abbrev pub further_pass : (n k arc_count : ℕ) → FurtherLengths → Bool
further_pass n k arc_count f =
    is_enough arc_count f.by_end && is_enough (n + 1) f.places && is_enough (n * 2 ^ k) f.cells && is_enough n f.marks && is_enough k f.shares

abbrev pub lengths_pass : (n k arc_count starts ends weights landings : ℕ) → FurtherLengths → Bool
lengths_pass n k arc_count starts ends weights landings f =
    leb arc_count starts && leb arc_count ends && leb arc_count weights && leb n landings && further_pass n k arc_count f

abbrev pub are_long : (n k arc_count : ℕ) → SheetTables → FurtherLengths → Bool
are_long n k arc_count t f = lengths_pass n k arc_count (length t.starts) (length t.ends) (length t.weights) (length t.landings) f
