-- A table whose first entries are written and whose later entries are untouched.
-- Assumes nothing.
use Rattle.std.specs.Prelude.{ℕ, suc, ◌+◌, ◌-◌, ◌≤◌, ◌<◌, ◌≡◌, List, [], ◌∷◌, ◌++◌, length, get_or, take, drop, set}
use Rattle.std.proofs.Common.{sym, ap, ◌∙◌, append_assoc, add-one, arith, length-append, length-drop, length-set, length-take-le, drop_at, drop-cons, get_or-append-add, get_or-drop}
use Rattle.std.proofs.Math.ListN.{get_or-append}
use Rattle.std.proofs.Math.Seq.{set-append_seam}
use Rattle.std.proofs.lemmas.List.{set-append_left}

module _ {A : Type 0} where
  -- the table `old` with the entries of `new` in the place of its first ones
  abbrev pub over : List A → List A → List A
  over new old = new ++ drop (length new) old

  -- the same with as many entries of `new` as `old` has room for
  abbrev pub fit_over : List A → List A → List A
  fit_over new old = over (take (length old) new) old

  pub length_over : (new old : List A) → length new ≤ length old → length (over new old) ≡ length old
  length_over new old h = simp (length-append, length-drop) (omega arith)

  -- the first entries are the new ones
  pub get_d_over : (new old : List A) (i : ℕ) (d : A) → i < length new → get_or (over new old) i d ≡ get_or new i d
  get_d_over new old i d h = get_or-append new (drop (length new) old) d i h

  -- the later entries are the old ones
  pub get_d_later : (new old : List A) (i : ℕ) (d : A) → length new ≤ i → get_or (over new old) i d ≡ get_or old i d
  get_d_later new old i d h =
      let e : length new + (i - length new) ≡ i = omega arith in
      ap (λ (j : ℕ). get_or (over new old) j d) (sym e)
      ∙ get_or-append-add new (drop (length new) old) (i - length new) d
      ∙ get_or-drop (length new) old (i - length new) d
      ∙ ap (λ (j : ℕ). get_or old j d) e

  -- one entry more, written at the first place that is not written yet
  pub over_more : (new old : List A) (a : A) → length new < length old → set (over new old) (length new) a ≡ over (new ++ (a ∷ [])) old
  over_more new old a h =
      ap (λ (l : List A). set (new ++ l) (length new) a) (drop-cons old (length new) a h)
      ∙ set-append_seam new (get_or old (length new) a) (drop (suc (length new)) old) a
      ∙ sym (append_assoc new (a ∷ []) (drop (suc (length new)) old))
      ∙ ap (λ (n : ℕ). (new ++ (a ∷ [])) ++ drop n old) (sym (length-append new (a ∷ []) ∙ add-one (length new)))

  -- an entry written anew among the new ones
  pub over_set : (new old : List A) (i : ℕ) (a : A) → i < length new → set (over new old) i a ≡ over (set new i a) old
  over_set new old i a h =
      set-append_left new (drop (length new) old) i a h ∙ ap (λ (n : ℕ). set new i a ++ drop n old) (sym (length-set new i a))

  -- what was written before in the same entries makes no difference
  pub over_over : (new first old : List A) → length first ≡ length new → over new (over first old) ≡ over new old
  over_over new first old e = ap (λ (l : List A). new ++ l) (drop_at first (drop (length first) old) (length new) e ∙ ap (λ (n : ℕ). drop n old) e)

  -- the first i entries, changed: the table is as long as before
  pub relent_length : (i : ℕ) (old new : List A) {len : ℕ} → length new ≡ length (take i old) → length old ≡ len → i ≤ len → length (new ++ drop i old) ≡ len
  relent_length i old new e same long = omega (arith, length-append new (drop i old), length-drop i old, length-take-le i old (omega arith))
