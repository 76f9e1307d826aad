-- The costs of one set at four nodes: added, tested, and in a list that has four for each set; and what is asked of the list.
-- Assumes nothing.
use Rattle.std.specs.Prelude.{ℕ, ◌+◌, ◌*◌, ◌≤◌, ◌<◌, ◌≡◌, refl, Bool, true, false, ◌&&◌, ◌||◌, List, ltb, length}
use Rattle.std.proofs.Common.{sym, subst, true≢false, arith, lt-ltb}
use Rattle.limits.specs.Limits.{max_subsets}
use Rattle.cost_table.specs.Cells.{cell_in}
use Rattle.lanes.specs.declared.Four.{Four}
use Rattle.lanes.specs.laws.Four.{nth, four_of, FourLow, FourSmall, below_four}
use Rattle.working_none.specs.laws.WorkingNone.{working_none}
use Rattle.working_none.specs.laws.Low.{entry}

-- four costs and four costs, added
abbrev pub sum_four : (x y : Four ℕ) → Four ℕ
sum_four x y = record { a = x.a + y.a; b = x.b + y.b; c = x.c + y.c; d = x.d + y.d }

-- the sums of costs that are not above "none" are small
pub sum_small : {x y sum : Four ℕ} → FourLow x → FourLow y → sum ≡ sum_four x y → FourSmall sum
sum_small (a, b, c, d) (a', b', c', d') is = subst FourSmall (sym is) (omega arith, omega arith, omega arith, omega arith)

-- the costs of the set w at four nodes, where f j has those of node j
abbrev pub rows_at : (f : ℕ → ℕ → ℕ) → (w : ℕ) → Four ℕ
rows_at f w = record { a = f 0 w; b = f 1 w; c = f 2 w; d = f 3 w }

pub rows_nth : (f : ℕ → ℕ → ℕ) (w j : ℕ) → j < 4 → nth (rows_at f w) j ≡ f j w
rows_nth f w = below_four (λ j. nth (rows_at f w) j ≡ f j w) refl refl refl refl

-- ---- two costs that are finite

-- both of two costs are
abbrev pub finite : (x y : ℕ) → Bool
finite x y = ltb x working_none && ltb y working_none

-- at one of four nodes both are
abbrev pub both_finite : (x y : Four ℕ) → Bool
both_finite x y = ((finite x.a y.a || finite x.b y.b) || finite x.c y.c) || finite x.d y.d

finite_true : {x y : ℕ} → x < working_none → y < working_none → finite x y ≡ true
finite_true {x} {y} l r = λ i. lt-ltb x working_none l i && lt-ltb y working_none r i

-- where the test fails, at none of them
pub none_finite : (x y : Four ℕ) → both_finite x y ≡ false → (j : ℕ) → j < 4 → nth x j < working_none → nth y j < working_none → ⊥
none_finite x y fails = below_four (λ j. nth x j < working_none → nth y j < working_none → ⊥)
    (λ l r. (go (finite x.a y.a) (finite x.b y.b) (finite x.c y.c) (finite x.d y.d) fails).0 (finite_true l r))
    (λ l r. (go (finite x.a y.a) (finite x.b y.b) (finite x.c y.c) (finite x.d y.d) fails).1 (finite_true l r))
    (λ l r. (go (finite x.a y.a) (finite x.b y.b) (finite x.c y.c) (finite x.d y.d) fails).2 (finite_true l r))
    (λ l r. (go (finite x.a y.a) (finite x.b y.b) (finite x.c y.c) (finite x.d y.d) fails).3 (finite_true l r))
  where
    go : (p q r s : Bool) → ((p || q) || r) || s ≡ false → (p ≡ true → ⊥) × (q ≡ true → ⊥) × (r ≡ true → ⊥) × (s ≡ true → ⊥)
    go true q r s e = absurd (true≢false e)
    go false true r s e = absurd (true≢false e)
    go false false true s e = absurd (true≢false e)
    go false false false true e = absurd (true≢false e)
    go false false false false e = (λ t. true≢false (sym t), λ t. true≢false (sym t), λ t. true≢false (sym t), λ t. true≢false (sym t))

-- ---- in a list with four costs for each set

-- the cost of the set w at node j
abbrev pub set_costs : List ℕ → (j w : ℕ) → ℕ
set_costs list j w = cell_in list 4 w j

-- the four costs from an entry on
abbrev pub costs_from : List ℕ → ℕ → Four ℕ
costs_from list at = record { a = entry list at; b = entry list (at + 1); c = entry list (at + 2); d = entry list (at + 3) }

-- those of the set w are from entry 4 w on
pub from_set : (list : List ℕ) {at : ℕ} (w : ℕ) → at ≡ w * 4 → costs_from list at ≡ rows_at (set_costs list) w
from_set list {at} w is =
    let first : at ≡ w * 4 + 0 = omega arith in
    λ i. record { a = entry list (first i); b = entry list (is i + 1); c = entry list (is i + 2); d = entry list (is i + 3) }

-- the list has the costs of w and of its parts, none of which is above "none"
pub record FourCosts (list : List ℕ) (w : ℕ) : Type 0 where
  pub few : w < max_subsets
  pub fits : w * 4 + 4 ≤ length list
  pub low : (j y : ℕ) → j < 4 → y ≤ w → set_costs list j y ≤ working_none

pub whole_costs : {list : List ℕ} {v w : ℕ} → FourCosts list w → v ≡ w → FourCosts list v
whole_costs {list} C e = subst (FourCosts list) (sym e) C

-- what is asked where costs are added
pub costs_low : {list : List ℕ} {w y : ℕ} {f : Four ℕ} → FourCosts list w → y ≤ w → f ≡ four_of list y → FourLow f
costs_low {list} {w} {y} C l is =
    subst FourLow (sym is) (C.low 0 y (omega arith) l, C.low 1 y (omega arith) l, C.low 2 y (omega arith) l, C.low 3 y (omega arith) l)
