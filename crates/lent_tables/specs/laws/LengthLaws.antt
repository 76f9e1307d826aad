-- The tests of the lengths pass exactly where the tables are long enough; and the test of the cells, as code makes it.
-- Assumes nothing.
use Rattle.std.specs.Prelude.{ℕ, ◌+◌, ◌*◌, ◌^◌, ◌≤◌, ◌<◌, ◌≡◌, refl, Bool, true, ◌&&◌, leb, length, Option, Some, None}
use Rattle.std.proofs.Common.{sym, ap, ◌∙◌, mul-le-mul, arith, pow_mono, leb-true, le-leb}
use Rattle.limits.specs.Limits.{max_terminals, max_subsets}
use Rattle.lists.specs.Tests.{both_true}
use Rattle.lent_tables.specs.SheetTables.{SheetTables}
use Rattle.lent_tables.specs.Lengths.{Enough, FurtherLong, AllLong, is_enough, further_pass, are_long}
use Rattle.lent_tables.specs.declared.FurtherLengths.{FurtherLengths}

enough_true : (need : ℕ) (table : Option ℕ) → is_enough need table ≡ true → Enough need table
enough_true need (Some count) e = leb-true need count e
enough_true need None e = tt

true_enough : (need : ℕ) (table : Option ℕ) → Enough need table → is_enough need table ≡ true
true_enough need (Some count) h = le-leb need count h
true_enough need None h = refl

module _ (n k arc_count : ℕ) (f : FurtherLengths) where
  further_test_long : further_pass n k arc_count f ≡ true → FurtherLong n k arc_count f
  further_test_long e =
      let a = is_enough arc_count f.by_end in
      let b = is_enough (n + 1) f.places in
      let c = is_enough (n * 2 ^ k) f.cells in
      let d = is_enough n f.marks in
      let (before_shares, shares) = both_true (a && b && c && d) (is_enough k f.shares) e in
      let (before_marks, marks) = both_true (a && b && c) d before_shares in
      let (index, cells) = both_true (a && b) c before_marks in
      let (by_end, places) = both_true a b index in
      record {
        by_end = enough_true arc_count f.by_end by_end;
        places = enough_true (n + 1) f.places places;
        cells = enough_true (n * 2 ^ k) f.cells cells;
        marks = enough_true n f.marks marks;
        shares = enough_true k f.shares shares;
      }

  further_long_passes : FurtherLong n k arc_count f → further_pass n k arc_count f ≡ true
  further_long_passes l =
      λ i. true_enough arc_count f.by_end l.by_end i && true_enough (n + 1) f.places l.places i
      && true_enough (n * 2 ^ k) f.cells l.cells i && true_enough n f.marks l.marks i && true_enough k f.shares l.shares i

module _ (n k arc_count : ℕ) (t : SheetTables) (f : FurtherLengths) where
  pub test_long : are_long n k arc_count t f ≡ true → AllLong n k arc_count t f
  test_long e =
      let a = leb arc_count (length t.starts) in
      let b = leb arc_count (length t.ends) in
      let c = leb arc_count (length t.weights) in
      let d = leb n (length t.landings) in
      let (loaded, further) = both_true (a && b && c && d) (further_pass n k arc_count f) e in
      let (arcs, landings) = both_true (a && b && c) d loaded in
      let (both, weights) = both_true (a && b) c arcs in
      let (starts, ends) = both_true a b both in
      record {
        tables = record { starts = leb-true _ _ starts; ends = leb-true _ _ ends; weights = leb-true _ _ weights; landings = leb-true _ _ landings };
        further = further_test_long n k arc_count f further;
      }

  pub long_passes : AllLong n k arc_count t f → are_long n k arc_count t f ≡ true
  long_passes l =
      let tables = l.tables in
      λ i. le-leb _ _ tables.starts i && le-leb _ _ tables.ends i && le-leb _ _ tables.weights i && le-leb _ _ tables.landings i
      && further_long_passes n k arc_count f l.further i

-- ---- the tests as code makes them

-- where the other tests have passed, the last one decides
pub last_decides : {a b c d e r : Bool} → a ≡ true → b ≡ true → c ≡ true → d ≡ true → r ≡ e → r ≡ (a && b && c && d && e)
last_decides {e = e} p q s t last = last ∙ sym (λ i. p i && q i && s i && t i && e)

-- n times the number of sets fits a number of 64 bits
pub cells_fit : (n k size : ℕ) → n < 2 ^ 16 → k ≤ max_terminals → size ≡ 2 ^ k → n * size < 2 ^ 64
cells_fit n k size few small is =
    let sets : size ≤ max_subsets = omega (arith, is, pow_mono {j = max_terminals} small) in
    let low : n ≤ 2 ^ 16 = omega arith in
    omega (arith, mul-le-mul low sets)

-- the test of the cells, as code makes it
pub cells_test : (n k size : ℕ) (table : Option ℕ) (passes b : Bool) → size ≡ 2 ^ k → passes ≡ is_enough (n * size) table → passes ≡ b
    → is_enough (n * 2 ^ k) table ≡ b
cells_test n k size table passes b is e t = ap (λ (x : ℕ). is_enough (n * x) table) (sym is) ∙ sym e ∙ t
