-- The rule of the order (document 01, "Subsets"): it has 1,024 entries, each of 0 to 1,023 occurs once, no size is before a smaller one, and
-- the numbers of one size rise.
-- Assumes nothing.
use Rattle.std.specs.Prelude.{ℕ, zero, suc, ◌+◌, ◌%◌, ◌/◌, ◌^◌, ◌≤◌, ◌<◌, ◌≡◌, refl, ◌⊎◌, List, [], ◌∷◌, map, length, get_or}
use Rattle.std.proofs.Common.{sym, ap, ◌∙◌, subst, inl, inr, eq-or-lt_of_le, zero-add, add-one, arith, ext_get_or, shr_lt}
use Rattle.std.specs.Int.Count.{ones, ones_in, ones_step}
use Rattle.std.proofs.lemmas.Nat.{ones-le}
use Rattle.limits.specs.Limits.{max_terminals, max_subsets}
use Rattle.lists.specs.Count.{count, count_position}
use Rattle.lists.specs.Every.{every_at}
use Rattle.lists.specs.Numbers.{numbers, length_values, get_d_values}
use Rattle.lists.specs.Sorted.{sorted_at}
use Rattle.order.specs.Order.{of_size, order_by, order, in_order}
use Rattle.order.proofs.laws.BySize.{Before, once_order_by, length_order_by, every_order_by, sorted_order_by, same_order_by}

-- the order of three stations
three_terminals : order_by ones 3 ≡ 0 ∷ 1 ∷ 2 ∷ 4 ∷ 3 ∷ 5 ∷ 6 ∷ 7 ∷ []
unfolding order_by of_size ones ones_in
three_terminals = refl

pub length_order : length order ≡ max_subsets
unfolding order
length_order = length_order_by ones max_terminals (ones-le max_terminals)

pub occurs_once : (w : ℕ) → w < max_subsets → count w order ≡ 1
unfolding order
occurs_once w h = once_order_by ones max_terminals (ones-le max_terminals) w h

within : (i : ℕ) → i < max_subsets → i < length order
within i h = omega (arith, length_order)

pub below : (i : ℕ) → i < max_subsets → in_order i < max_subsets
unfolding in_order order
below i h = every_at (λ x. x < max_subsets) (order_by ones max_terminals) (every_order_by ones max_terminals) i 0 (within i h)

-- an earlier entry has a smaller size, or the same size and a smaller number
pub earlier : (i j : ℕ) → i < j → j < max_subsets → Before ones (in_order i) (in_order j)
unfolding in_order order
earlier i j h k = sorted_at (Before ones) (order_by ones max_terminals) (sorted_order_by ones max_terminals) i j 0 h (within j k)

pub never_falls : (i j : ℕ) → i ≤ j → j < max_subsets → ones (in_order i) ≤ ones (in_order j)
never_falls i j h k = go (eq-or-lt_of_le h)
  where
    size : (x y : ℕ) → Before ones x y → ones x ≤ ones y
    size x y (inl l) = omega arith
    size x y (inr b) = omega arith

    go : (i ≡ j) ⊎ (i < j) → ones (in_order i) ≤ ones (in_order j)
    go (inl e) = omega (arith, ap (λ (x : ℕ). ones (in_order x)) e)
    go (inr l) = size (in_order i) (in_order j) (earlier i j l k)

pub rises : (i j : ℕ) → i < j → j < max_subsets → ones (in_order i) ≡ ones (in_order j) → in_order i < in_order j
rises i j h k e = go (earlier i j h k)
  where
    go : Before ones (in_order i) (in_order j) → in_order i < in_order j
    go (inl l) = absurd (omega arith)
    go (inr b) = b.1

-- every subset stands at one position
pub position : (w : ℕ) → w < max_subsets → (i : ℕ) × (i < max_subsets) × (in_order i ≡ w)
unfolding in_order
position w h =
    let p = count_position w order (omega (arith, occurs_once w h)) in
    (p.0, omega (arith, p.1, length_order), p.2)

pub one_position : (i j : ℕ) → i < max_subsets → j < max_subsets → in_order i ≡ in_order j → i ≡ j
one_position i j h k e =
    let a : i < j → ⊥ = λ l. differ (in_order i) (in_order j) (earlier i j l k) e in
    let b : j < i → ⊥ = λ l. differ (in_order j) (in_order i) (earlier j i l h) (sym e) in
    omega arith
  where
    differ : (x y : ℕ) → Before ones x y → x ≡ y → ⊥
    differ x y (inl l) e = omega (arith, ap ones e)
    differ x y (inr b) e = omega arith

-- ten digits are enough to count the ones of a number below 2^10
ones_in_lem : (d n : ℕ) → n < 2 ^ d → ones n ≡ ones_in d n
unfolding ones_in ones
ones_in_lem zero zero h = refl
ones_in_lem zero (suc n) h = absurd (omega arith)
ones_in_lem (suc d) n h = ones_step n ∙ ap (λ (x : ℕ). n % 2 + x) (ones_in_lem d (n / 2) (half d n h))
  where
    half : (d n : ℕ) → n < 2 ^ suc d → n / 2 < 2 ^ d
    half d n h = shr_lt d 1 (subst (λ (x : ℕ). n < 2 ^ x) (sym (add-one d)) h)

-- the order with a count that computes quickly
pub computed : order_by (ones_in max_terminals) max_terminals ≡ order
unfolding order
computed = same_order_by (ones_in max_terminals) ones max_terminals (λ w h. sym (ones_in_lem max_terminals w h))

-- a list is its entries, in their order
entries : (l : List ℕ) (n : ℕ) → length l ≡ n → l ≡ map (λ i. get_or l i 0) (numbers 0 n)
entries l n long =
    ext_get_or 0 l (map at (numbers 0 n)) (long ∙ sym (length_values at 0 n))
    (λ i h. sym (get_d_values at 0 n i 0 (omega arith) ∙ ap at (zero-add i)))
  where
    at : ℕ → ℕ
    at i = get_or l i 0

-- the subsets at the positions, one after the other, computed quickly
pub listed : order_by (ones_in max_terminals) max_terminals ≡ map in_order (numbers 0 max_subsets)
unfolding in_order
listed = computed ∙ entries order max_subsets length_order
