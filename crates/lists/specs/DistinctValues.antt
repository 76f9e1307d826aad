-- Lists at whose entries a function has values that all differ: the entries differ, and entries with one value are one entry.
-- Where this holds of a list, the values differ.
-- Assumes nothing.
use Rattle.std.specs.Prelude.{ℕ, ◌≡◌, ◌≢◌, List, [], ◌∷◌, map, T}
use Rattle.std.proofs.Common.{sym, ap, ◌∙◌, ⊎_elim}
use Rattle.lists.specs.Every.{Every}
use Rattle.lists.specs.Listed.{listed, listed_head, listed_tail, listed_cases, listed_value, value_of, every_listed, listed_every, Distinct}

module _ (f : ℕ → ℕ) where
  -- the value at an entry x is not that at a later one, where it differs from all of these
  value_later : (x y : ℕ) (l : List ℕ) → Every (λ z. f x ≢ z) (map f l) → T (listed y l) → f x ≢ f y
  value_later x y l e t = every_listed (λ z. f x ≢ z) (map f l) e (f y) (listed_value f l y t)

  -- entries with one value are one entry
  pub one_entry : (l : List ℕ) → Distinct (map f l) → (x y : ℕ) → T (listed x l) → T (listed y l) → f x ≡ f y → x ≡ y
  one_entry [] d x y s t q = absurd s
  one_entry (z ∷ l) d x y s t q = ⊎_elim
      (λ (a : x ≡ z). ⊎_elim (λ (b : y ≡ z). a ∙ sym b) (λ (j : T (listed y l)). absurd (value_later z y l d.0 j (ap f (sym a) ∙ q))) (listed_cases y z l t))
      (λ (i : T (listed x l)). ⊎_elim (λ (b : y ≡ z). absurd (value_later z x l d.0 i (ap f (sym b) ∙ sym q)))
      (λ (j : T (listed y l)). one_entry l d.1 x y i j q) (listed_cases y z l t))
      (listed_cases x z l s)

  -- the entries differ too
  pub entries_distinct : (l : List ℕ) → Distinct (map f l) → Distinct l
  entries_distinct [] d = tt
  entries_distinct (x ∷ l) d = (listed_every (λ y. x ≢ y) l (λ y t q. value_later x y l d.0 t (ap f q)), entries_distinct l d.1)

  -- where the entries differ, and entries with one value are one entry, the values differ
  pub values_distinct : (l : List ℕ) → Distinct l → ((x y : ℕ) → T (listed x l) → T (listed y l) → f x ≡ f y → x ≡ y) → Distinct (map f l)
  values_distinct [] d h = tt
  values_distinct (x ∷ l) d h = (
    listed_every (λ z. f x ≢ z) (map f l) (λ z t q. differ (value_of f l z t) q),
    values_distinct l d.1 (λ y z s t. h y z (listed_tail y x l s) (listed_tail z x l t)),
  )
    where
      differ : {z : ℕ} → (y : ℕ) × T (listed y l) × (f y ≡ z) → f x ≢ z
      differ (y, t, e) q = every_listed (λ z. x ≢ z) l d.0 y t (h x y (listed_head x l) (listed_tail y x l t) (q ∙ sym e))
