-- What every entry of a list has: of lists put together, of parts of a list, and at a position;
-- and what follows from it for every entry.
-- Assumes nothing.
use Rattle.std.specs.Prelude.{ℕ, zero, suc, ◌<◌, length, get_or, take, drop}
use Rattle.std.proofs.Common.{sym, subst, le_of_suc-le-suc, not-suc-le-zero, arith, take-append-drop}
use mathlib.Core.List.{List, [], ◌∷◌, ◌++◌, Memᴰ}

module _ {A : Type 0} (P : A → Type 0) where
  -- every entry of the list has P
  abbrev pub Every : List A → Type 0
  Every [] = Unit {0}
  Every (x ∷ l) = P x × Every l

  pub every_append : (a b : List A) → Every a → Every b → Every (a ++ b)
  every_append [] b e f = f
  every_append (x ∷ a) b e f = (e.0, every_append a b e.1 f)

  pub every_right : (a b : List A) → Every (a ++ b) → Every b
  every_right [] b e = e
  every_right (x ∷ a) b e = every_right a b e.1

  pub every_drop : (n : ℕ) (l : List A) → Every l → Every (drop n l)
  every_drop n l e = every_right (take n l) (drop n l) (subst Every (sym (take-append-drop n l)) e)

  pub every_mem : {x : A} {l : List A} → Every l → Memᴰ x l → P x
  every_mem e (Memᴰ.head s) = subst P (sym s) e.0
  every_mem e (Memᴰ.tail m) = every_mem e.1 m

  pub every_at : (l : List A) → Every l → (i : ℕ) (d : A) → i < length l → P (get_or l i d)
  every_at [] e i d h = absurd (not-suc-le-zero h)
  every_at (x ∷ l) e zero d h = e.0
  every_at (x ∷ l) e (suc i) d h = every_at l e.1 i d (le_of_suc-le-suc h)

  pub at_every : (l : List A) (d : A) → ((i : ℕ) → i < length l → P (get_or l i d)) → Every l
  at_every [] d h = tt
  at_every (x ∷ l) d h = (h zero (omega arith), at_every l d (λ i b. h (suc i) (omega arith)))

-- what follows from P, every entry has too
pub every_imp : {A : Type 0} (P Q : A → Type 0) → ((x : A) → P x → Q x) → (l : List A) → Every P l → Every Q l
every_imp P Q f [] e = tt
every_imp P Q f (x ∷ l) e = (f x e.0, every_imp P Q f l e.1)
