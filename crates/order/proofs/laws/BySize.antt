-- The subsets by size and then by number, for any number of stations and any count that is their size.
-- Assumes nothing.
use Prim.Native.Nat.{ℕ, zero, suc, ◌+◌, ◌^◌, ◌≤◌, ◌<◌}
use Rattle.std.specs.Prelude.{◌≡◌, refl, ◌⊎◌, Bool, true, false, List, [], ◌∷◌, length}
use Rattle.std.proofs.Common.{sym, ap, ap₂, ◌∙◌, inl, inr, length-append}
use native.Mathlib.Omega.{arith}
use Rattle.std.proofs.Math.Dec.{T, eqb, eqb→eq}
use Rattle.lists.specs.Tests.{by_test}
use Rattle.lists.specs.Count.{bit, count, count_append, count_select, count_select_none}
use Rattle.lists.specs.Every.{Every, every_imp, every_append}
use Rattle.lists.specs.Joined.{joined, joined_same, joined_none}
use Rattle.lists.specs.Numbers.{numbers, length_numbers, every_number, sorted_numbers, count_number}
use Rattle.lists.specs.Select.{keep, select, every_select, select_same}
use Rattle.lists.specs.Sorted.{Sorted, sorted_imp, sorted_append, sorted_select}
use Rattle.order.specs.Order.{of_size, order_by}

-- x is before y: a smaller size, or the same size and a smaller number
abbrev pub Before : (ℕ → ℕ) → ℕ → ℕ → Type 0
Before size x y = (size x < size y) ⊎ ((size x ≡ size y) × (x < y))

-- ---- the numbers below n, by size

module _ (size : ℕ → ℕ) (n : ℕ) where
  -- the numbers of one size, rising
  every_of_size : (s : ℕ) → Every (λ x. (x < n) × (size x ≡ s)) (of_size size n s)
  unfolding of_size
  every_of_size s =
      every_imp (λ x. ((0 ≤ x) × (x < 0 + n)) × T (eqb (size x) s)) (λ x. (x < n) × (size x ≡ s))
      (λ x h. (omega arith, eqb→eq (size x) s h.1))
      (select (λ w. eqb (size w) s) (numbers 0 n))
      (every_select (λ x. (0 ≤ x) × (x < 0 + n)) (λ w. eqb (size w) s) (numbers 0 n) (every_number 0 n))

  rising_of_size : (s : ℕ) → Sorted ◌<◌ (of_size size n s)
  unfolding of_size
  rising_of_size s = sorted_select ◌<◌ (λ w. eqb (size w) s) (numbers 0 n) (sorted_numbers 0 n)

  sorted_of_size : (s : ℕ) → Sorted (Before size) (of_size size n s)
  sorted_of_size s =
      sorted_imp ◌<◌ (Before size) (λ x. (x < n) × (size x ≡ s)) (λ x y p q h. inr (p.1 ∙ sym q.1, h)) (of_size size n s) (every_of_size s)
      (rising_of_size s)

  -- the sizes from s on
  every_joined : (s m : ℕ) → Every (λ x. (x < n) × (s ≤ size x)) (joined (of_size size n) (numbers s m))
  every_joined s zero = tt
  every_joined s (suc m) =
      every_append (λ x. (x < n) × (s ≤ size x)) (of_size size n s) (joined (of_size size n) (numbers (suc s) m))
      (every_imp (λ x. (x < n) × (size x ≡ s)) (λ x. (x < n) × (s ≤ size x)) (λ x h. (h.0, omega arith)) (of_size size n s) (every_of_size s))
      (every_imp (λ x. (x < n) × (suc s ≤ size x)) (λ x. (x < n) × (s ≤ size x)) (λ x h. (h.0, omega arith)) (joined (of_size size n) (numbers (suc s) m))
      (every_joined (suc s) m))

  sorted_joined : (s m : ℕ) → Sorted (Before size) (joined (of_size size n) (numbers s m))
  sorted_joined s zero = tt
  sorted_joined s (suc m) =
      let more = joined (of_size size n) (numbers (suc s) m) in
      sorted_append (Before size) (of_size size n s) more (sorted_of_size s) (sorted_joined (suc s) m)
      (every_imp (λ x. (x < n) × (size x ≡ s)) (λ x. Every (Before size x) more)
      (λ x h. every_imp (λ y. (y < n) × (suc s ≤ size y)) (Before size x) (λ y k. inl (omega arith)) more (every_joined (suc s) m))
      (of_size size n s) (every_of_size s))

  -- a number below n occurs once among the numbers of its size, and nowhere else
  count_of_size : (w s : ℕ) → w < n → count w (of_size size n s) ≡ bit (eqb (size w) s)
  unfolding of_size
  count_of_size w s h = by_test (eqb (size w) s) (λ b. count w (of_size size n s) ≡ bit b)
      (λ e. count_select w (λ x. eqb (size x) s) (numbers 0 n) e ∙ count_number w 0 n (omega arith) (omega arith))
      (λ e. count_select_none w (λ x. eqb (size x) s) (numbers 0 n) e)

  count_joined : (w : ℕ) → w < n → (ss : List ℕ) → count w (joined (of_size size n) ss) ≡ count (size w) ss
  count_joined w h [] = refl
  count_joined w h (s ∷ ss) = count_append w (of_size size n s) (joined (of_size size n) ss) ∙ ap₂ ◌+◌ (count_of_size w s h) (count_joined w h ss)

-- the entries of l of size s
abbrev selected : (ℕ → ℕ) → List ℕ → ℕ → List ℕ
selected size l s = select (λ w. eqb (size w) s) l

-- the lists of the sizes ss have together as many entries as l, where the size of each entry of l occurs once in ss
length_joined : (size : ℕ → ℕ) (ss l : List ℕ) → Every (λ x. count (size x) ss ≡ 1) l → length (joined (selected size l) ss) ≡ length l
length_joined size ss [] e = ap length (joined_none (selected size []) (λ s. refl) ss)
length_joined size ss (x ∷ l) e = omega (arith, one_more ss, length_joined size ss l e.1, e.0)
  where
    length_keep : (t : Bool) (a : List ℕ) → length (keep t x a) ≡ bit t + length a
    length_keep true a = omega arith
    length_keep false a = omega arith

    one_more : (ss : List ℕ) → length (joined (selected size (x ∷ l)) ss) ≡ count (size x) ss + length (joined (selected size l) ss)
    one_more [] = refl
    one_more (s ∷ ss) =
        let t = eqb (size x) s in
        let a = selected size l s in
        omega (arith, length-append (keep t x a) (joined (selected size (x ∷ l)) ss), length-append a (joined (selected size l) ss), length_keep t a, one_more ss)

-- two counts that agree below n select the same numbers
same_of_size : (f g : ℕ → ℕ) (n : ℕ) → ((w : ℕ) → w < n → f w ≡ g w) → (s : ℕ) → of_size f n s ≡ of_size g n s
unfolding of_size
same_of_size f g n h s =
    select_same (λ w. eqb (f w) s) (λ w. eqb (g w) s) (numbers 0 n)
    (every_imp (λ x. (0 ≤ x) × (x < 0 + n)) (λ x. eqb (f x) s ≡ eqb (g x) s) (λ x b. ap (λ (y : ℕ). eqb y s) (h x (omega arith))) (numbers 0 n) (every_number 0 n))

-- ---- the order of k stations

-- the numbers are below 2^k, and stand by size and then by number
pub every_order_by : (size : ℕ → ℕ) (k : ℕ) → Every (λ x. x < 2 ^ k) (order_by size k)
unfolding order_by
every_order_by size k =
    every_imp (λ x. (x < 2 ^ k) × (0 ≤ size x)) (λ x. x < 2 ^ k) (λ x h. h.0) (order_by size k) (every_joined size (2 ^ k) 0 (suc k))

pub sorted_order_by : (size : ℕ → ℕ) (k : ℕ) → Sorted (Before size) (order_by size k)
unfolding order_by
sorted_order_by size k = sorted_joined size (2 ^ k) 0 (suc k)

-- where no set of k stations has a size above k, each number below 2^k occurs once
module _ (size : ℕ → ℕ) (k : ℕ) (small : (w : ℕ) → w < 2 ^ k → size w ≤ k) where
  one_size : (w : ℕ) → w < 2 ^ k → count (size w) (numbers 0 (suc k)) ≡ 1
  one_size w h = count_number (size w) 0 (suc k) (omega arith) (omega (arith, small w h))

  pub once_order_by : (w : ℕ) → w < 2 ^ k → count w (order_by size k) ≡ 1
  unfolding order_by
  once_order_by w h = count_joined size (2 ^ k) w h (numbers 0 (suc k)) ∙ one_size w h

  pub length_order_by : length (order_by size k) ≡ 2 ^ k
  unfolding order_by of_size
  length_order_by =
      length_joined size (numbers 0 (suc k)) (numbers 0 (2 ^ k))
      (every_imp (λ x. (0 ≤ x) × (x < 0 + 2 ^ k)) (λ x. count (size x) (numbers 0 (suc k)) ≡ 1) (λ x h. one_size x (omega arith)) (numbers 0 (2 ^ k))
      (every_number 0 (2 ^ k)))
      ∙ length_numbers 0 (2 ^ k)

-- two counts that agree on the sets of k stations give the same order
pub same_order_by : (f g : ℕ → ℕ) (k : ℕ) → ((w : ℕ) → w < 2 ^ k → f w ≡ g w) → order_by f k ≡ order_by g k
unfolding order_by
same_order_by f g k h = joined_same (of_size f (2 ^ k)) (of_size g (2 ^ k)) (same_of_size f g (2 ^ k) h) (numbers 0 (suc k))
