-- The lowest number below n that passes: what is found, and when it is.
-- Assumes nothing.
use Rattle.std.specs.Prelude.{ℕ, zero, suc, ◌<◌, ◌≡◌, refl, Bool, true, false, not, T}
use Rattle.std.proofs.Common.{ap, ◌∙◌, subst, arith}
use Rattle.std.proofs.Math.Option.{Option, none, some}
use Rattle.std.proofs.Math.Decide.{ℕ_discrete, dec_lt}
use Rattle.lists.specs.Tests.{true_fact, false_not_fact, not_both}
use Rattle.lists.specs.Find.{first, found_or, IsFirst}

pub first_is_first : (f : ℕ → Bool) (n : ℕ) → IsFirst f n (first f n)
first_is_first f zero = λ j l. absurd (omega arith)
first_is_first f (suc n) = go (first f n) (first_is_first f n) (f n) refl
  where
    go : (o : Option ℕ) → IsFirst f n o → (b : Bool) → f n ≡ b → IsFirst f (suc n) (found_or o b n)
    go (some i) s b q = (omega (arith, s.0), s.1, s.2)
    go none s true q = (omega arith, true_fact q, s)
    go none s false q = λ j l. last j l (ℕ_discrete j n)
      where
        last : (j : ℕ) → j < suc n → Dec (j ≡ n) → T (not (f j))
        last j l (yes e) = false_not_fact (ap f e ∙ q)
        last j l (no p) = s j (omega arith)

-- what the search finds, by its value
pub first_says : (f : ℕ → Bool) (n : ℕ) (o : Option ℕ) → first f n ≡ o → IsFirst f n o
first_says f n o q = subst (IsFirst f n) q (first_is_first f n)

-- a number that passes, and below which none does, is what the search finds
pub first_found : (f : ℕ → Bool) (n i : ℕ) → i < n → T (f i) → ((j : ℕ) → j < i → T (not (f j))) → first f n ≡ some i
first_found f n i l t below = go (first f n) (first_is_first f n)
  where
    go : (o : Option ℕ) → IsFirst f n o → o ≡ some i
    go none s = absurd (not_both (f i) t (s i l))
    go (some j) s = ap some (same (dec_lt j i) (dec_lt i j))
      where
        same : Dec (j < i) → Dec (i < j) → j ≡ i
        same (yes a) b = absurd (not_both (f j) s.1 (below j a))
        same (no a) (yes b) = absurd (not_both (f i) t (s.2 i b))
        same (no a) (no b) = omega arith

-- where no number passes it finds none
pub first_none : (f : ℕ → Bool) (n : ℕ) → ((j : ℕ) → j < n → T (not (f j))) → first f n ≡ none
first_none f n h = go (first f n) (first_is_first f n)
  where
    go : (o : Option ℕ) → IsFirst f n o → o ≡ none
    go none s = refl
    go (some j) s = absurd (not_both (f j) s.1 (h j s.0))
