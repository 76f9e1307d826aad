-- The last entry of a list: induction from the end, and what every entry of a list with a given last entry has.
-- Equal lists have one last entry.
-- Assumes nothing.
use Rattle.std.specs.Prelude.{◌≡◌}
use Rattle.std.proofs.Common.{sym, ap, ◌∙◌, subst}
use mathlib.Core.List.{List, [], ◌∷◌, ◌++◌, append-nil, append_assoc, reverse, reverse-append, head-eq_of_cons-eq}
use Rattle.lists.specs.Every.{Every}

module _ {A : Type 0} where
  -- to prove P of a list, prove it of the empty list, and of a list with one entry more at its end where it holds of the list
  pub by_last : (P : List A → Type 0) → P [] → ((l : List A) (x : A) → P l → P (l ++ (x ∷ []))) → (l : List A) → P l
  by_last P empty more l = go [] l empty
    where
      go : (a l : List A) → P a → P (a ++ l)
      go a [] h = subst P (sym (append-nil a)) h
      go a (x ∷ l) h = subst P (append_assoc a (x ∷ []) l) (go (a ++ (x ∷ [])) l (more a x h))

  -- what every entry has, the entries before the last one have, and the last one has
  pub every_last : (P : A → Type 0) (l : List A) (x : A) → Every P (l ++ (x ∷ [])) → Every P l × P x
  every_last P [] x e = (tt, e.0)
  every_last P (y ∷ l) x e = let r = every_last P l x e.1 in ((e.0, r.0), r.1)

  -- equal lists have one last entry
  pub last_same : (a b : List A) (x y : A) → a ++ (x ∷ []) ≡ b ++ (y ∷ []) → x ≡ y
  last_same a b x y e = head-eq_of_cons-eq (sym (reverse-append a (x ∷ [])) ∙ ap reverse e ∙ reverse-append b (y ∷ []))
