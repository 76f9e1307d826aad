-- The order of fewer stations is the order of more, with the numbers of 2^k or more passed over (document 01, "Subsets").
-- Assumes nothing.
use Prim.Native.Nat.{ℕ, suc, ◌+◌, ◌-◌, ◌^◌, ◌≤◌, ◌<◌}
use Rattle.std.specs.Prelude.{◌≡◌, refl, true, false, ltb}
use Rattle.std.proofs.Math.Path.{ap}
use Rattle.std.proofs.Common.{ap₂, ◌∙◌, pow_mono}
use Rattle.std.proofs.Math.Bool.{Bool}
use mathlib.Core.List.{List, [], ◌++◌, append-nil}
use native.Mathlib.Omega.{arith}
use Rattle.std.specs.Int.Count.{ones, ones-le}
use Rattle.std.proofs.Math.Dec.{eqb}
use borrow.Author.Tests.{lt-ltb, le-ltb, ne_eqb}
use Rattle.lists.specs.Every.{every_imp}
use Rattle.lists.specs.Joined.{joined, joined_same, joined_every, joined_none, joined_append, select_joined}
use Rattle.lists.specs.Numbers.{numbers, numbers_append, every_number}
use Rattle.lists.specs.Select.{select, select_append, select_all, select_none, select_twice}
use Rattle.limits.specs.Limits.{max_terminals}
use Rattle.order.specs.Order.{of_size, order_by, order}

module _ (k m : ℕ) (le : k ≤ m) where
  abbrev low : ℕ → Bool
  low w = ltb w (2 ^ k)

  -- of the numbers below 2^m those below 2^k
  low_numbers : select low (numbers 0 (2 ^ m)) ≡ numbers 0 (2 ^ k)
  low_numbers =
      let more : 2 ^ m ≡ 2 ^ k + (2 ^ m - 2 ^ k) = omega (arith, pow_mono {j = m} le) in
      let high = numbers (0 + 2 ^ k) (2 ^ m - 2 ^ k) in
      ap (λ (n : ℕ). select low (numbers 0 n)) more
      ∙ ap (select low) (numbers_append 0 (2 ^ k) (2 ^ m - 2 ^ k))
      ∙ select_append low (numbers 0 (2 ^ k)) high
      ∙ ap₂ ◌++◌
      (select_all low (numbers 0 (2 ^ k))
      (every_imp (λ x. (0 ≤ x) × (x < 0 + 2 ^ k)) (λ x. low x ≡ true) (λ x b. lt-ltb x (2 ^ k) (omega arith)) (numbers 0 (2 ^ k)) (every_number 0 (2 ^ k))))
      (select_none low high
      (every_imp (λ x. (0 + 2 ^ k ≤ x) × (x < (0 + 2 ^ k) + (2 ^ m - 2 ^ k))) (λ x. low x ≡ false) (λ x b. le-ltb x (2 ^ k) (omega arith)) high
      (every_number (0 + 2 ^ k) (2 ^ m - 2 ^ k))))
      ∙ append-nil (numbers 0 (2 ^ k))

  -- and those of one size
  low_of_size : (s : ℕ) → select low (of_size ones (2 ^ m) s) ≡ of_size ones (2 ^ k) s
  unfolding of_size
  low_of_size s =
      let sized : ℕ → Bool = λ w. eqb (ones w) s in
      select_twice low sized (numbers 0 (2 ^ m)) ∙ ap (select sized) low_numbers

  -- k stations have no set of a larger size
  no_larger : (s : ℕ) → k < s → of_size ones (2 ^ k) s ≡ []
  unfolding of_size
  no_larger s large =
      select_none (λ w. eqb (ones w) s) (numbers 0 (2 ^ k))
      (every_imp (λ x. (0 ≤ x) × (x < 0 + 2 ^ k)) (λ x. eqb (ones x) s ≡ false) (λ x b. ne_eqb (ones x) s (λ e. omega (arith, ones-le k x (omega arith))))
      (numbers 0 (2 ^ k)) (every_number 0 (2 ^ k)))

  pub passed_over : select (λ w. ltb w (2 ^ k)) (order_by ones m) ≡ order_by ones k
  unfolding order_by
  passed_over =
      let more : suc m ≡ suc k + (m - k) = omega arith in
      let large = numbers (0 + suc k) (m - k) in
      select_joined low (of_size ones (2 ^ m)) (numbers 0 (suc m))
      ∙ joined_same (λ s. select low (of_size ones (2 ^ m) s)) (of_size ones (2 ^ k)) low_of_size (numbers 0 (suc m))
      ∙ ap (λ (n : ℕ). joined (of_size ones (2 ^ k)) (numbers 0 n)) more
      ∙ ap (joined (of_size ones (2 ^ k))) (numbers_append 0 (suc k) (m - k))
      ∙ joined_append (of_size ones (2 ^ k)) (numbers 0 (suc k)) large
      ∙ ap (λ (l : List ℕ). order_by ones k ++ l)
      (joined_every (of_size ones (2 ^ k)) (λ _. []) large
      (every_imp (λ x. (0 + suc k ≤ x) × (x < (0 + suc k) + (m - k))) (λ x. of_size ones (2 ^ k) x ≡ []) (λ x b. no_larger x (omega arith)) large
      (every_number (0 + suc k) (m - k)))
      ∙ joined_none (λ _. []) (λ _. refl) large)
      ∙ append-nil (order_by ones k)

-- "For k below 10, entries of 2^k or more are passed over": what is left is the order of k stations
pub fewer_stations : (k : ℕ) → k ≤ max_terminals → select (λ w. ltb w (2 ^ k)) order ≡ order_by ones k
unfolding order
fewer_stations k = passed_over k max_terminals
