-- The entries of a list that pass a test, in the list's order: what they have, tests that agree, that all pass or that none does, two tests,
-- lists put together, and the values of a function.
-- Assumes nothing.
use Rattle.std.specs.Prelude.{◌≡◌, refl, Bool, true, false, List, [], ◌∷◌, ◌++◌, map, T}
use Rattle.std.proofs.Common.{sym, ap, ap₂, subst}
use Rattle.lists.specs.Tests.{by_test}
use Rattle.lists.specs.Every.{Every}

module _ {A : Type 0} where
  -- x before l where the test passes, else l alone
  abbrev pub keep : Bool → A → List A → List A
  keep true x l = x ∷ l
  keep false x l = l

  -- the entries of l that pass the test p, in the order of l
  abbrev pub select : (A → Bool) → List A → List A
  select p [] = []
  select p (x ∷ l) = keep (p x) x (select p l)

  pub every_select : (P : A → Type 0) (p : A → Bool) (l : List A) → Every P l → Every (λ x. P x × T (p x)) (select p l)
  every_select P p [] e = tt
  every_select P p (x ∷ l) e =
      let later = every_select P p l e.1 in
      by_test (p x) (λ b. Every (λ y. P y × T (p y)) (keep b x (select p l))) (λ q. ((e.0, subst T (sym q) tt), later)) (λ q. later)

  -- two tests that agree on every entry select the same
  pub select_same : (p q : A → Bool) (l : List A) → Every (λ x. p x ≡ q x) l → select p l ≡ select q l
  select_same p q [] e = refl
  select_same p q (x ∷ l) e = ap₂ (λ (b : Bool) (r : List A). keep b x r) e.0 (select_same p q l e.1)

  -- of two lists put together
  pub select_append : (p : A → Bool) (a b : List A) → select p (a ++ b) ≡ select p a ++ select p b
  select_append p [] b = refl
  select_append p (x ∷ a) b =
      let later = select_append p a b in
      by_test (p x) (λ c. keep c x (select p (a ++ b)) ≡ keep c x (select p a) ++ select p b) (λ _. ap (λ (l : List A). x ∷ l) later) (λ _. later)

  -- a test that every entry passes, and one that none does
  pub select_all : (p : A → Bool) (l : List A) → Every (λ x. p x ≡ true) l → select p l ≡ l
  select_all p [] e = refl
  select_all p (x ∷ l) e = ap₂ (λ (b : Bool) (r : List A). keep b x r) e.0 (select_all p l e.1)

  pub select_none : (p : A → Bool) (l : List A) → Every (λ x. p x ≡ false) l → select p l ≡ []
  select_none p [] e = refl
  select_none p (x ∷ l) e = ap₂ (λ (b : Bool) (r : List A). keep b x r) e.0 (select_none p l e.1)

  -- of two tests either may come first
  pub select_twice : (p q : A → Bool) (l : List A) → select p (select q l) ≡ select q (select p l)
  select_twice p q [] = refl
  select_twice p q (x ∷ l) =
      let later = select_twice p q l in
      by_test (q x) (λ c. select p (keep c x (select q l)) ≡ select q (keep (p x) x (select p l)))
      (λ e. by_test (p x) (λ b. keep b x (select p (select q l)) ≡ select q (keep b x (select p l)))
      (λ _. ap₂ (λ (c : Bool) (r : List A). keep c x r) (sym e) later) (λ _. later))
      (λ e. by_test (p x) (λ b. select p (select q l) ≡ select q (keep b x (select p l)))
      (λ _. ap₂ (λ (c : Bool) (r : List A). keep c x r) (sym e) later) (λ _. later))

-- the values of a function that pass a test
pub select_map : {A B : Type 0} (p : B → Bool) (f : A → B) (l : List A) → select p (map f l) ≡ map f (select (λ x. p (f x)) l)
select_map p f [] = refl
select_map {B = B} p f (x ∷ l) =
    let later = select_map p f l in
    by_test (p (f x)) (λ b. keep b (f x) (select p (map f l)) ≡ map f (keep b x (select (λ y. p (f y)) l))) (λ _. ap (λ (r : List B). f x ∷ r) later) (λ _. later)
