-- The lent tables that hold a sheet (document 01, "The cost table"): "leg starts, leg ends, leg prices (each at least as long as the number of
-- legs), landing sets (n)". A table is the list of its entries.
-- Assumes nothing.
use Rattle.std.specs.Prelude.{ℕ, ◌≤◌, ◌≡◌, List, [], length}
use Rattle.std.proofs.Common.{arith}

pub record SheetTables : Type 0 where
  -- leg starts, leg ends and leg prices, one entry a leg
  pub starts : List ℕ
  pub ends : List ℕ
  pub weights : List ℕ
  -- landing sets, one entry a site
  pub landings : List ℕ

abbrev pub sheet_tables : (starts ends weights landings : List ℕ) → SheetTables
sheet_tables starts ends weights landings = record { starts = starts; ends = ends; weights = weights; landings = landings }

-- leg tables alone, where no other table is looked at: the others are empty
abbrev pub arcs_alone : (starts ends weights : List ℕ) → SheetTables
arcs_alone starts ends weights = sheet_tables starts ends weights []

abbrev pub arc_tables_of : SheetTables → SheetTables
arc_tables_of t = arcs_alone t.starts t.ends t.weights

-- with other leg tables, or with other landing sets
abbrev pub with_arc_tables : (starts ends weights : List ℕ) → SheetTables → SheetTables
with_arc_tables starts ends weights t = record { starts = starts; ends = ends; weights = weights; landings = t.landings }

abbrev pub with_landings : List ℕ → SheetTables → SheetTables
with_landings landings t = record { starts = t.starts; ends = t.ends; weights = t.weights; landings = landings }

-- "Tables are long enough when each needed one has at least the length stated for it": the number of legs, or n
pub record Long (n arc_count : ℕ) (t : SheetTables) : Type 0 where
  pub starts : arc_count ≤ length t.starts
  pub ends : arc_count ≤ length t.ends
  pub weights : arc_count ≤ length t.weights
  pub landings : n ≤ length t.landings

-- the tables t' are as long as the tables t
pub record SameLengths (t' t : SheetTables) : Type 0 where
  pub starts : length t'.starts ≡ length t.starts
  pub ends : length t'.ends ≡ length t.ends
  pub weights : length t'.weights ≡ length t.weights
  pub landings : length t'.landings ≡ length t.landings

-- so they are long enough where those are
pub long_same : {n arc_count : ℕ} {t' t : SheetTables} → SameLengths t' t → Long n arc_count t → Long n arc_count t'
long_same same long = record {
  starts = omega (arith, same.starts, long.starts);
  ends = omega (arith, same.ends, long.ends);
  weights = omega (arith, same.weights, long.weights);
  landings = omega (arith, same.landings, long.landings);
}

-- tables that are long enough for so many legs are long enough for fewer
pub long_fewer : (n fewer arc_count : ℕ) (t : SheetTables) → fewer ≤ arc_count → Long n arc_count t → Long n fewer t
long_fewer n fewer arc_count t h l = record {
  starts = omega (arith, l.starts);
  ends = omega (arith, l.ends);
  weights = omega (arith, l.weights);
  landings = l.landings;
}

-- and for no sites; so are the leg tables alone
pub long_arcs : {n arc_count : ℕ} {t : SheetTables} → Long n arc_count t → Long 0 arc_count t
long_arcs l = record { starts = l.starts; ends = l.ends; weights = l.weights; landings = omega arith }

pub arcs_long : {n arc_count : ℕ} {t : SheetTables} → Long n arc_count t → Long 0 arc_count (arc_tables_of t)
arcs_long l = record { starts = l.starts; ends = l.ends; weights = l.weights; landings = omega arith }
