-- Lists in which each entry has a relation to every later one: lists put together, the entries that pass a test,
-- entries at two positions, and another relation that follows.
-- Assumes nothing.
use Rattle.std.specs.Prelude.{ℕ, zero, suc, ◌<◌, Bool, List, [], ◌∷◌, ◌++◌, T, length, get_or}
use Rattle.std.proofs.Common.{le_of_suc-le-suc, not-suc-le-zero}
use Rattle.lists.specs.Tests.{by_test}
use Rattle.lists.specs.Every.{Every, every_imp, every_append, every_at}
use Rattle.lists.specs.Select.{keep, select, every_select}

module _ {A : Type 0} (R : A → A → Type 0) where
  -- each entry has R to every later one
  abbrev pub Sorted : List A → Type 0
  Sorted [] = Unit {0}
  Sorted (x ∷ l) = Every (R x) l × Sorted l

  pub sorted_append : (a b : List A) → Sorted a → Sorted b → Every (λ x. Every (R x) b) a → Sorted (a ++ b)
  sorted_append [] b s t e = t
  sorted_append (x ∷ a) b s t e = (every_append (R x) a b s.0 e.0, sorted_append a b s.1 t e.1)

  pub sorted_at : (l : List A) → Sorted l → (i j : ℕ) (d : A) → i < j → j < length l → R (get_or l i d) (get_or l j d)
  sorted_at [] s i j d h k = absurd (not-suc-le-zero k)
  sorted_at (x ∷ l) s i zero d h k = absurd (not-suc-le-zero h)
  sorted_at (x ∷ l) s zero (suc j) d h k = every_at (R x) l s.0 j d (le_of_suc-le-suc k)
  sorted_at (x ∷ l) s (suc i) (suc j) d h k = sorted_at l s.1 i j d (le_of_suc-le-suc h) (le_of_suc-le-suc k)

  pub sorted_select : (p : A → Bool) (l : List A) → Sorted l → Sorted (select p l)
  sorted_select p [] s = tt
  sorted_select p (x ∷ l) s =
      let later = sorted_select p l s.1 in
      let first = every_imp (λ y. R x y × T (p y)) (R x) (λ y h. h.0) (select p l) (every_select (R x) p l s.0) in
      by_test (p x) (λ b. Sorted (keep b x (select p l))) (λ q. (first, later)) (λ q. later)

-- the same with another relation, which holds between entries that have P
pub sorted_imp : {A : Type 0} (R S : A → A → Type 0) (P : A → Type 0) → ((x y : A) → P x → P y → R x y → S x y)
    → (l : List A) → Every P l → Sorted R l → Sorted S l
sorted_imp R S P f [] e s = tt
sorted_imp {A} R S P f (x ∷ l) e s = (later l e.1 s.0, sorted_imp R S P f l e.1 s.1)
  where
    later : (l : List A) → Every P l → Every (R x) l → Every (S x) l
    later [] u v = tt
    later (y ∷ l) u v = (f x y e.0 u.0 v.0, later l u.1 v.1)
