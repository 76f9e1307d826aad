-- What remains of a list when the entries of another are taken out of it, each once: the kit's `diff`. Where these entries all differ and
-- are entries of the list, every sum over the list is that over them and that over what remains.
-- Assumes nothing.
use Rattle.std.specs.Prelude.{ℕ, ◌+◌, ◌≡◌, ◌≢◌, T}
use Rattle.std.proofs.Common.{sym, ap, ◌∙◌, ⊎_elim, arith}
use Rattle.std.proofs.Math.Logic.{ite}
use mathlib.Core.List.{List, [], ◌∷◌, erase, diff}
use Rattle.std.proofs.Math.Decide.{ℕ_discrete}
use Rattle.lists.specs.Listed.{listed, listed_head, listed_same, listed_tail, listed_cases, every_listed, Distinct}
use Rattle.lists.specs.Sums.{sum_by}

-- l without one entry x
abbrev without : List ℕ → ℕ → List ℕ
without l x = erase ℕ_discrete l x

-- the sum over a list is the value at an entry, and the sum over the list without it
sum_without : (f : ℕ → ℕ) (x : ℕ) (l : List ℕ) → T (listed x l) → sum_by f l ≡ f x + sum_by f (without l x)
sum_without f x [] t = absurd t
sum_without f x (y ∷ l) t = go (ℕ_discrete y x) (λ i. sum_without f x l i)
  where
    go : (d : Dec (y ≡ x)) → (T (listed x l) → sum_by f l ≡ f x + sum_by f (without l x))
        → f y + sum_by f l ≡ f x + sum_by f (ite d l (y ∷ without l x))
    go (yes e) later = omega (arith, ap f e)
    go (no n) later = ⊎_elim (λ (e : x ≡ y). absurd (n (sym e))) (λ (i : T (listed x l)). omega (arith, later i)) (listed_cases x y l t)

-- other entries stay
listed_without : (x y : ℕ) (l : List ℕ) → y ≢ x → T (listed y l) → T (listed y (without l x))
listed_without x y [] n t = absurd t
listed_without x y (z ∷ l) n t = go (ℕ_discrete z x) (listed_without x y l n)
  where
    go : (d : Dec (z ≡ x)) → (T (listed y l) → T (listed y (without l x))) → T (listed y (ite d l (z ∷ without l x)))
    go (yes e) later = ⊎_elim (λ (q : y ≡ z). absurd (n (q ∙ e))) (λ (i : T (listed y l)). i) (listed_cases y z l t)
    go (no p) later = ⊎_elim (λ (q : y ≡ z). listed_same y z (without l x) q)
        (λ (i : T (listed y l)). listed_tail y z (without l x) (later i)) (listed_cases y z l t)

-- what remains of l without the entries of k
abbrev pub remaining : List ℕ → List ℕ → List ℕ
remaining l k = diff ℕ_discrete l k

pub sum_remaining : (f : ℕ → ℕ) (l k : List ℕ) → Distinct k → ((x : ℕ) → T (listed x k) → T (listed x l))
    → sum_by f l ≡ sum_by f k + sum_by f (remaining l k)
unfolding diff
sum_remaining f l [] d sub = omega arith
sum_remaining f l (x ∷ k) d sub =
    let differ : (y : ℕ) → T (listed y k) → y ≢ x = λ y t q. every_listed (λ z. x ≢ z) k d.0 y t (sym q) in
    let later = sum_remaining f (without l x) k d.1 (λ y t. listed_without x y l (differ y t) (sub y (listed_tail y x k t))) in
    omega (arith, sum_without f x l (sub x (listed_head x k)))
