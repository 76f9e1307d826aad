-- The rule of the order for any number of stations: it has each number below 2^k once, no size is before a smaller one, and the numbers of one size
-- rise.
-- Assumes nothing.
use Rattle.std.specs.Prelude.{ℕ, ◌^◌, ◌≤◌, ◌<◌, ◌≡◌, ◌⊎◌, length, get_or}
use Rattle.std.proofs.Common.{sym, ap, inl, inr, eq-or-lt_of_le, arith}
use Rattle.std.specs.Int.Count.{ones}
use Rattle.std.proofs.lemmas.Nat.{ones-le}
use Rattle.lists.specs.Count.{count, count_position}
use Rattle.lists.specs.Every.{every_at}
use Rattle.lists.specs.Sorted.{sorted_at}
use Rattle.order.specs.Order.{order_by}
use Rattle.order.proofs.laws.BySize.{Before, once_order_by, length_order_by, every_order_by, sorted_order_by}

-- the set at a position of the order of k stations
abbrev pub set_at : (k i : ℕ) → ℕ
set_at k i = get_or (order_by ones k) i 0

module _ (k : ℕ) where
  pub length_sets : length (order_by ones k) ≡ 2 ^ k
  length_sets = length_order_by ones k (ones-le k)

  pub once_in_order : (w : ℕ) → w < 2 ^ k → count w (order_by ones k) ≡ 1
  once_in_order w h = once_order_by ones k (ones-le k) w h

  pub set_below : (i : ℕ) → i < 2 ^ k → set_at k i < 2 ^ k
  set_below i h = every_at (λ x. x < 2 ^ k) (order_by ones k) (every_order_by ones k) i 0 (omega (arith, length_sets))

  -- an earlier entry has a smaller size, or the same size and a smaller number
  pub set_before : (i j : ℕ) → i < j → j < 2 ^ k → Before ones (set_at k i) (set_at k j)
  set_before i j h l = sorted_at (Before ones) (order_by ones k) (sorted_order_by ones k) i j 0 h (omega (arith, length_sets))

  pub sizes_rise : (i j : ℕ) → i ≤ j → j < 2 ^ k → ones (set_at k i) ≤ ones (set_at k j)
  sizes_rise i j h l = go (eq-or-lt_of_le h)
    where
      size : (x y : ℕ) → Before ones x y → ones x ≤ ones y
      size x y (inl b) = omega arith
      size x y (inr b) = omega arith

      go : (i ≡ j) ⊎ (i < j) → ones (set_at k i) ≤ ones (set_at k j)
      go (inl e) = omega (arith, ap (λ (x : ℕ). ones (set_at k x)) e)
      go (inr b) = size (set_at k i) (set_at k j) (set_before i j b l)

  pub sets_rise : (i j : ℕ) → i < j → j < 2 ^ k → ones (set_at k i) ≡ ones (set_at k j) → set_at k i < set_at k j
  sets_rise i j h l e = go (set_before i j h l)
    where
      go : Before ones (set_at k i) (set_at k j) → set_at k i < set_at k j
      go (inl b) = absurd (omega arith)
      go (inr b) = b.1

  -- every set stands at one position
  pub set_position : (w : ℕ) → w < 2 ^ k → (i : ℕ) × (i < 2 ^ k) × (set_at k i ≡ w)
  set_position w h =
      let p = count_position w (order_by ones k) (omega (arith, once_in_order w h)) in
      (p.0, omega (arith, p.1, length_sets), p.2)

  pub one_set_position : (i j : ℕ) → i < 2 ^ k → j < 2 ^ k → set_at k i ≡ set_at k j → i ≡ j
  one_set_position i j h l e =
      let a : i < j → ⊥ = λ b. differ (set_at k i) (set_at k j) (set_before i j b l) e in
      let b : j < i → ⊥ = λ b. differ (set_at k j) (set_at k i) (set_before j i b h) (sym e) in
      omega arith
    where
      differ : (x y : ℕ) → Before ones x y → x ≡ y → ⊥
      differ x y (inl b) e = omega (arith, ap ones e)
      differ x y (inr b) e = omega arith
