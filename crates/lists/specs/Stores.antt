-- A list stored entry by entry from a place on, which is the library's `sets`: one list stored after another, and a list stored from the
-- first place on, in a table that is long enough and in any.
-- Assumes nothing.
use Rattle.std.specs.Prelude.{ℕ, suc, ◌+◌, ◌≤◌, ◌≡◌, refl, List, [], ◌∷◌, ◌++◌, length, drop, set}
use Rattle.std.proofs.Common.{sym, ap, ap₂, ◌∙◌, zero-add, arith}
use Rattle.std.proofs.lemmas.List.Edits.{sets, sets-eq}
use Rattle.std.proofs.Math.Seq.{take-nil}
use Rattle.lists.specs.Over.{over, fit_over}

module _ {A : Type 0} where
  -- a list, then another from the place after it, is the two put together
  pub sets_append : (a b l : List A) (i : ℕ) → sets (sets l i a) (i + length a) b ≡ sets l i (a ++ b)
  sets_append [] b l i = ap (λ (j : ℕ). sets l j b) (omega arith)
  sets_append (x ∷ a) b l i = ap (λ (j : ℕ). sets (sets (set l i x) (suc i) a) j b) (omega arith) ∙ sets_append a b (set l i x) (suc i)

  -- the same of the tables before and after each
  pub sets_then : (a b l l' l'' : List A) (i j : ℕ) → l' ≡ sets l i a → j ≡ i + length a → l'' ≡ sets l' j b → l'' ≡ sets l i (a ++ b)
  sets_then a b l l' l'' i j first next then = then ∙ ap₂ (λ (t : List A) (k : ℕ). sets t k b) first next ∙ sets_append a b l i

  -- from the first place on, in a table that is long enough
  pub sets_over : (new old : List A) → length new ≤ length old → sets old 0 new ≡ over new old
  sets_over new old h = sets-eq new old 0 (omega arith) ∙ ap (λ (n : ℕ). new ++ drop n old) (zero-add (length new))

  -- from the first place on, in any table: what has no place is not stored
  sets_nil : (new : List A) (i : ℕ) → sets [] i new ≡ []
  sets_nil [] i = refl
  sets_nil (a ∷ new) i = sets_nil new (suc i)

  sets_cons : (new old : List A) (x : A) (i : ℕ) → sets (x ∷ old) (suc i) new ≡ x ∷ sets old i new
  sets_cons [] old x i = refl
  sets_cons (a ∷ new) old x i = sets_cons new (set old i a) x (suc i)

  pub sets_fit : (new old : List A) → sets old 0 new ≡ fit_over new old
  sets_fit [] old = ap (λ (l : List A). over l old) (sym (take-nil (length old)))
  sets_fit (a ∷ new) [] = sets_nil new 1
  sets_fit (a ∷ new) (x ∷ old) = sets_cons new old a 0 ∙ ap (λ (l : List A). a ∷ l) (sets_fit new old)
