-- The four cells of a node: what an arc to a node gives its start, whether that is less than a cell of the start, and the lesser of both.
-- Assumes nothing.
use Rattle.std.specs.Prelude.{ℕ, ◌+◌, ◌*◌, ◌≤◌, ◌<◌, min, ◌≡◌, refl, ◌≢◌, Bool, true, false, ◌||◌, List, ltb, length}
use Rattle.std.proofs.Common.{sym, ap, ◌∙◌, subst, true≢false, arith, ltb-true, ltb-false}
use Rattle.limits.specs.Limits.{max_weight}
use Rattle.lent_tables.specs.SheetTables.{SheetTables}
use Rattle.cost_table.specs.Cells.{cell_in}
use Rattle.lanes.specs.declared.Four.{Four}
use Rattle.lanes.specs.laws.Four.{nth, four_of, less_four, less_nth, FourLow, FourSmall, below_four}
use Rattle.lanes.specs.laws.WriteFour.{write_four, put_four, four_length, four_node, four_other}
use Rattle.working_none.specs.laws.Low.{AllLow}
use Rattle.settling.specs.laws.Arcs.{end_of, weight_of, ListLanes}

-- four costs with a weight added
abbrev pub along_four : Four ℕ → ℕ → Four ℕ
along_four f weight = record { a = f.a + weight; b = f.b + weight; c = f.c + weight; d = f.d + weight }

-- one of the costs `by` is less than that of `old`
abbrev pub falls_four : (old by : Four ℕ) → Bool
falls_four old by = ((ltb by.a old.a || ltb by.b old.b) || ltb by.c old.c) || ltb by.d old.d

-- ---- what they have by their numbers

pub along_nth : (f : Four ℕ) (weight j : ℕ) → j < 4 → nth (along_four f weight) j ≡ nth f j + weight
along_nth f weight = below_four (λ j. nth (along_four f weight) j ≡ nth f j + weight) refl refl refl refl

pub cell_nth : (lanes : List ℕ) (v j : ℕ) → j < 4 → nth (four_of lanes v) j ≡ cell_in lanes 4 v j
cell_nth lanes v = below_four (λ j. nth (four_of lanes v) j ≡ cell_in lanes 4 v j) refl refl refl refl

pub none_falls : (old by : Four ℕ) → falls_four old by ≡ false → (j : ℕ) → j < 4 → nth old j ≤ nth by j
none_falls old by = go (ltb by.a old.a) (ltb by.b old.b) (ltb by.c old.c) (ltb by.d old.d) refl refl refl refl
  where
    go : (p q r s : Bool) → ltb by.a old.a ≡ p → ltb by.b old.b ≡ q → ltb by.c old.c ≡ r → ltb by.d old.d ≡ s
        → ((p || q) || r) || s ≡ false → (j : ℕ) → j < 4 → nth old j ≤ nth by j
    go false false false false a b c d e =
        below_four (λ j. nth old j ≤ nth by j) (ltb-false _ _ a) (ltb-false _ _ b) (ltb-false _ _ c) (ltb-false _ _ d)
    go true q r s a b c d e = absurd (true≢false e)
    go false true r s a b c d e = absurd (true≢false e)
    go false false true s a b c d e = absurd (true≢false e)
    go false false false true a b c d e = absurd (true≢false e)

pub one_falls : (old by : Four ℕ) → falls_four old by ≡ true → (j : ℕ) × (j < 4) × (nth by j < nth old j)
one_falls old by = go (ltb by.a old.a) (ltb by.b old.b) (ltb by.c old.c) (ltb by.d old.d) refl refl refl refl
  where
    go : (p q r s : Bool) → ltb by.a old.a ≡ p → ltb by.b old.b ≡ q → ltb by.c old.c ≡ r → ltb by.d old.d ≡ s
        → ((p || q) || r) || s ≡ true → (j : ℕ) × (j < 4) × (nth by j < nth old j)
    go true q r s a b c d e = (0, omega arith, ltb-true _ _ a)
    go false true r s a b c d e = (1, omega arith, ltb-true _ _ b)
    go false false true s a b c d e = (2, omega arith, ltb-true _ _ c)
    go false false false true a b c d e = (3, omega arith, ltb-true _ _ d)
    go false false false false a b c d e = absurd (true≢false (sym e))

-- the cells of a node in a list without a number above "none"
pub four_low : {here : Four ℕ} (lanes : List ℕ) (v : ℕ) → v * 4 + 4 ≤ length lanes → AllLow lanes → here ≡ four_of lanes v → FourLow here
four_low lanes v l low is =
    subst FourLow (sym is)
    (low (v * 4 + 0) (omega arith), low (v * 4 + 1) (omega arith), low (v * 4 + 2) (omega arith), low (v * 4 + 3) (omega arith))

-- those with a weight added
pub along_small : {here by : Four ℕ} {weight : ℕ} → FourLow here → weight ≤ max_weight → by ≡ along_four here weight → FourSmall by
along_small (a, b, c, d) l is = subst FourSmall (sym is) (omega arith, omega arith, omega arith, omega arith)

-- what is asked where the arc at a place of a list is taken from the cells of its end
pub along_asked : {i count : ℕ} {t : SheetTables} {list lanes : List ℕ} {here : Four ℕ} → ListLanes t list count lanes → i < count
    → here ≡ four_of lanes (end_of t list i) → FourLow here × (weight_of t list i ≤ max_weight)
along_asked {i = i} {t = t} {list = list} {lanes = lanes} R l is = let k = R.known i l in (four_low lanes (end_of t list i) k.end_fits R.low is, k.weight_low)

-- ---- the cells of node u fall to `by` where they are above it

pub record LoweredAt (u : ℕ) (by : Four ℕ) (before after : List ℕ) : Type 0 where
  pub same_length : length after ≡ length before
  pub here : (j : ℕ) → j < 4 → cell_in after 4 u j ≡ min (nth by j) (cell_in before 4 u j)
  pub others : (v j : ℕ) → j < 4 → v ≢ u → cell_in after 4 v j ≡ cell_in before 4 v j

pub lowered_at : {u : ℕ} {by old new : Four ℕ} {before after : List ℕ} → u * 4 + 4 ≤ length before → old ≡ four_of before u → new ≡ less_four by old
    → after ≡ write_four 4 u (λ j. j) (nth new) before → LoweredAt u by before after
lowered_at {u} {by} {old} {new} {before} {after} on was is written =
    subst (LoweredAt u by before) (sym (written ∙ ap (λ (f : Four ℕ). write_four 4 u (λ j. j) (nth f) before) (is ∙ ap (less_four by) was))) (record {
      same_length = four_length (λ j. u * 4 + j) x before;
      here = λ j l. four_node 4 u (λ i. i) x before (λ i l. l) fits j l ∙ put j l ∙ less_nth by (four_of before u) j l
          ∙ ap (min (nth by j)) (cell_nth before u j l);
      others = λ v j l ne. four_other 4 u (λ i. i) x before (λ i l. l) fits v j l ne;
    })
  where
    x : ℕ → ℕ
    x = nth (less_four by (four_of before u))

    fits : (i : ℕ) → i < 4 → u * 4 + i < length before
    fits i l = omega arith

    put : (j : ℕ) → j < 4 → put_four (λ i. i) x j (cell_in before 4 u j) ≡ x j
    put = below_four (λ j. put_four (λ i. i) x j (cell_in before 4 u j) ≡ x j) refl refl refl refl
