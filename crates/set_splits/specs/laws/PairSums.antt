-- Pairs of splits of a set at four nodes, in a list that has four costs for each set, where each set is given by its first entry.
-- Assumes nothing.
use Rattle.std.specs.Prelude.{ℕ, ◌+◌, ◌-◌, ◌*◌, ◌/◌, ◌≤◌, ◌<◌, ◌≡◌, refl, List, length}
use Rattle.std.proofs.Common.{ap, ap₂, ◌∙◌, arith}
use Rattle.std.specs.Int.Bits.{bit_and, and_step}
use Rattle.std.proofs.lemmas.Nat.{and_le_l}
use Rattle.limits.specs.Limits.{max_subsets}
use Rattle.lanes.specs.declared.Four.{Four}
use Rattle.lanes.specs.laws.Four.{nth, less_four, FourLow, signed_limit, FourSmall, less_small}
use Rattle.set_splits.specs.laws.FourCosts.{sum_four, sum_small, rows_at, set_costs, costs_from, from_set, FourCosts, whole_costs, costs_low}
use Rattle.set_splits.specs.laws.BestSplit.{others, BestSplits, FourTried, pair_sums, four_tried_none, four_tried_next, four_tried_all}

-- ---- one pair

-- the lesser of a pair of splits
abbrev pub pair_from : List ℕ → (y rest lowest : ℕ) → Four ℕ
pair_from list y rest lowest =
    less_four (sum_four (costs_from list y) (costs_from list (rest + lowest))) (sum_four (costs_from list (y + lowest)) (costs_from list rest))

-- the entries are the first ones of three sets, and the list has the costs of the sets up to their sum
pub record PairAsked (list : List ℕ) (y rest lowest : ℕ) : Type 0 where
  pub side : ℕ
  pub other_side : ℕ
  pub last : ℕ
  pub is_side : y ≡ side * 4
  pub is_other_side : rest ≡ other_side * 4
  pub is_last : lowest ≡ last * 4
  pub costs : FourCosts list (side + other_side + last)

-- what is asked where the costs of a set are read, and where they are added
pub from_fits : {list : List ℕ} {at w v : ℕ} → FourCosts list v → at ≡ w * 4 → w ≤ v → (at + 4 ≤ length list) × (at < max_subsets * 4)
from_fits C is le = (omega (arith, C.fits), omega (arith, C.few))

from_low : {list : List ℕ} {at w v : ℕ} {f : Four ℕ} → FourCosts list v → at ≡ w * 4 → w ≤ v → f ≡ costs_from list at → FourLow f
from_low {list} {at} {w} C is le e = costs_low C le (e ∙ from_set list w is)

module _ {list : List ℕ} {y rest lowest : ℕ} (P : PairAsked list y rest lowest) {one other : Four ℕ} where
  pub first_low : one ≡ costs_from list y → other ≡ costs_from list (rest + lowest) → FourLow one × FourLow other
  first_low is_one is-other = (
    from_low P.costs P.is_side (omega arith) is_one,
    from_low {w = P.other_side + P.last} P.costs (omega (arith, P.is_other_side, P.is_last)) (omega arith) is-other,
  )

  pub second_low : one ≡ costs_from list (y + lowest) → other ≡ costs_from list rest → FourLow one × FourLow other
  second_low is_one is-other = (
    from_low {w = P.side + P.last} P.costs (omega (arith, P.is_side, P.is_last)) (omega arith) is_one,
    from_low P.costs P.is_other_side (omega arith) is-other,
  )

pub pair_small : {list : List ℕ} {y rest lowest : ℕ} {less : Four ℕ} → PairAsked list y rest lowest → less ≡ pair_from list y rest lowest → FourSmall less
pair_small {list} {y} {rest} {lowest} P is =
    let (one, other) = second_low P refl refl in
    less_small (sum_four (costs_from list y) (costs_from list (rest + lowest))) (sum_four (costs_from list (y + lowest)) (costs_from list rest))
    (sum_small one other refl) is

-- the pair of three sets
pub pair_from_lem : (list : List ℕ) {y rest lowest : ℕ} (a b c : ℕ) → y ≡ a * 4 → rest ≡ b * 4 → lowest ≡ c * 4
    → pair_from list y rest lowest ≡ pair_sums (set_costs list) a b c
pair_from_lem list a b c is-a is_b is_c =
    ap₂ less_four (ap₂ sum_four (from_set list a is-a) (from_set list (b + c) (omega arith)))
    (ap₂ sum_four (from_set list (a + c) (omega arith)) (from_set list b is_b))

-- ---- all pairs

-- the pairs by the parts above the set with first entry `at` have been tried
pub record TriedAt (list : List ℕ) (w at : ℕ) (best : Four ℕ) : Type 0 where
  pub set : ℕ
  pub is : at ≡ set * 4
  pub tried : FourTried (set_costs list) w set best

-- four times the next lower part
next_four : (y u : ℕ) → bit_and (y * 4 - 1) (u * 4) ≡ bit_and (y - 1) u * 4
next_four y u =
    let one : (y * 4 - 1) / 2 ≡ y * 2 - 1 = omega arith in
    let two : (y * 2 - 1) / 2 ≡ y - 1 = omega arith in
    let half : u * 4 / 2 ≡ u * 2 = omega arith in
    let quarter : u * 2 / 2 ≡ u = omega arith in
    omega (arith, and_step (y * 4 - 1) (u * 4), ap₂ bit_and one half, and_step (y * 2 - 1) (u * 2), ap₂ bit_and two quarter)

module _ {list : List ℕ} {w : ℕ} where
  pub at_none : {best : Four ℕ} → best ≡ rows_at (set_costs list) w → TriedAt list w (others w * 4) best
  at_none is = record { set = others w; is = refl; tried = four_tried_none is }

  pub at_within : {at : ℕ} {best : Four ℕ} → TriedAt list w at best → at ≤ others w * 4
  at_within T = omega (arith, T.is, T.tried.within)

  pub at_asked : {at : ℕ} {best : Four ℕ} → FourCosts list w → TriedAt list w at best → PairAsked list at (others w * 4 - at) ((w - others w) * 4)
  at_asked C T =
      let within = T.tried.within in
      let below = and_le_l (w - 1) w in
      record {
        side = T.set;
        other_side = others w - T.set;
        last = w - others w;
        is_side = T.is;
        is_other_side = omega (arith, T.is);
        is_last = refl;
        costs = whole_costs C (omega arith);
      }

  -- the least so far is not above the cost of w
  pub at_small : {at : ℕ} {best : Four ℕ} → FourCosts list w → TriedAt list w at best → FourSmall best
  at_small {at} {best} C T = (small 0 (omega arith), small 1 (omega arith), small 2 (omega arith), small 3 (omega arith))
    where
      small : (j : ℕ) → j < 4 → nth best j < signed_limit
      small j s = omega (arith, (T.tried.each j s).low, C.low j w s (omega arith))

  pub at_next : {at : ℕ} {best sums best' : Four ℕ} → others w * 4 < at + at → sums ≡ pair_from list at (others w * 4 - at) ((w - others w) * 4)
      → best' ≡ less_four sums best → TriedAt list w at best → TriedAt list w (bit_and (at - 1) (others w * 4)) best'
  at_next {at} d is_sum is-best T = record {
    set = bit_and (T.set - 1) (others w);
    is = ap (λ (x : ℕ). bit_and (x - 1) (others w * 4)) T.is ∙ next_four T.set (others w);
    tried = four_tried_next (omega (arith, T.is))
        (is_sum ∙ pair_from_lem list T.set (others w - T.set) (w - others w) T.is (omega (arith, T.is)) refl) is-best T.tried;
  }

  pub at_all : {at : ℕ} {best : Four ℕ} → at + at ≤ others w * 4 → TriedAt list w at best → BestSplits (set_costs list) w best
  at_all d T = four_tried_all (omega (arith, T.is)) T.tried
