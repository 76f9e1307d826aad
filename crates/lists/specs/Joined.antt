-- Lists put one after the other: one list for each entry of another.
-- Functions that give the same lists, empty lists, two lists of entries, and a test; lists of one length.
-- Assumes nothing.
use Rattle.std.specs.Prelude.{ℕ, zero, suc, ◌+◌, ◌*◌, ◌<◌, ◌≡◌, refl, Bool, List, [], ◌∷◌, ◌++◌, length, get_or, drop}
use Rattle.std.proofs.Common.{sym, ap, ap₂, ◌∙◌, append_assoc, mul-zero, le_of_suc-le-suc, not-suc-le-zero, arith, length-append}
use Rattle.std.proofs.Math.Seq.{drop-append-add}
use Rattle.lists.specs.Every.{Every}
use Rattle.lists.specs.Select.{select, select_append}

module _ {A B : Type 0} where
  -- the lists f s for each s of l, one after the other
  abbrev pub joined : (A → List B) → List A → List B
  joined f [] = []
  joined f (s ∷ l) = f s ++ joined f l

  -- two functions that give the same lists
  pub joined_same : (f g : A → List B) → ((s : A) → f s ≡ g s) → (l : List A) → joined f l ≡ joined g l
  joined_same f g h [] = refl
  joined_same f g h (s ∷ l) = ap₂ ◌++◌ (h s) (joined_same f g h l)

  -- two functions that give the same list for every entry
  pub joined_every : (f g : A → List B) (l : List A) → Every (λ s. f s ≡ g s) l → joined f l ≡ joined g l
  joined_every f g [] h = refl
  joined_every f g (s ∷ l) h = ap₂ ◌++◌ h.0 (joined_every f g l h.1)

  -- empty lists, one after the other
  pub joined_none : (f : A → List B) → ((s : A) → f s ≡ []) → (l : List A) → joined f l ≡ []
  joined_none f h [] = refl
  joined_none f h (s ∷ l) = ap₂ ◌++◌ (h s) (joined_none f h l)

  -- the lists of two lists of entries
  pub joined_append : (f : A → List B) (a b : List A) → joined f (a ++ b) ≡ joined f a ++ joined f b
  joined_append f [] b = refl
  joined_append f (s ∷ a) b = ap (λ (l : List B). f s ++ l) (joined_append f a b) ∙ sym (append_assoc (f s) (joined f a) (joined f b))

  -- the entries that pass a test
  pub select_joined : (p : B → Bool) (f : A → List B) (l : List A) → select p (joined f l) ≡ joined (λ s. select p (f s)) l
  select_joined p f [] = refl
  select_joined p f (s ∷ l) = select_append p (f s) (joined f l) ∙ ap (λ (r : List B). select p (f s) ++ r) (select_joined p f l)

  -- each list has m entries: so many have all together, and the list of entry i stands after m * i of them
  module _ (f : A → List B) (m : ℕ) (size : (s : A) → length (f s) ≡ m) where
    pub length_joined : (l : List A) → length (joined f l) ≡ m * length l
    length_joined [] = omega arith
    length_joined (s ∷ l) = omega (arith, length-append (f s) (joined f l), size s, length_joined l)

    pub drop_joined : (l : List A) (i : ℕ) (d : A) → i < length l → drop (m * i) (joined f l) ≡ f (get_or l i d) ++ joined f (drop (suc i) l)
    drop_joined [] i d h = absurd (not-suc-le-zero h)
    drop_joined (s ∷ l) zero d h = ap (λ (n : ℕ). drop n (f s ++ joined f l)) (mul-zero m)
    drop_joined (s ∷ l) (suc i) d h =
        let e : m * suc i ≡ length (f s) + m * i = omega (arith, size s) in
        ap (λ (n : ℕ). drop n (f s ++ joined f l)) e
        ∙ drop-append-add (f s) (joined f l) (m * i)
        ∙ drop_joined l i d (le_of_suc-le-suc h)
