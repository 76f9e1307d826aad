-- The members of a list of any kind: whether one passes a test, those that pass it, and a function's values. The entries that pass a test are a
-- sublist. The library has the members of lists put together: Memᴰ.append_left and Memᴰ.append_right of mathlib.Core.List.
-- Assumes nothing.
use Rattle.std.specs.Prelude.{ℕ, ◌≡◌, refl, Bool, true, false, T}
use Rattle.std.proofs.Common.{sym, ap, subst, ⊎_elim}
use mathlib.Core.List.Memᴰ
use mathlib.Core.List.{List, [], ◌∷◌, ◌++◌, map, Memᴰ}
use Rattle.lists.specs.Tests.{by_fact, not_both, or_cases, or_left, or_right}
use Rattle.lists.specs.Find.{any_of}
use Rattle.lists.specs.Select.{keep, select}
use Rattle.lists.specs.Sublists.{sublists}
use Rattle.lists.specs.Listed.{listed, listed_same, listed_tail, listed_cases}

module _ {A : Type 0} where
  -- ---- some entry passes a test

  -- where some entry passes, a member does, and the other way round
  pub any_member : (p : A → Bool) (l : List A) → T (any_of p l) → (x : A) × Memᴰ x l × T (p x)
  any_member p [] t = absurd t
  any_member p (y ∷ l) t = ⊎_elim (λ (s : T (p y)). (y, Memᴰ.head refl, s))
      (λ (s : T (any_of p l)). let r = any_member p l s in (r.0, Memᴰ.tail r.1, r.2)) (or_cases (p y) (any_of p l) t)

  pub member_any : {x : A} (p : A → Bool) (l : List A) → Memᴰ x l → T (p x) → T (any_of p l)
  member_any p [] x3 t = elim x3 [ ]
  member_any p (y ∷ l) (Memᴰ.head s) t = or_left (p y) (any_of p l) (subst (λ (z : A). T (p z)) s t)
  member_any p (y ∷ l) (Memᴰ.tail m) t = or_right (p y) (any_of p l) (member_any p l m t)

  -- ---- the entries that pass a test

  -- a member of them is a member of the list that passes, and the other way round
  pub member_select : {x : A} (p : A → Bool) (l : List A) → Memᴰ x l → T (p x) → Memᴰ x (select p l)
  member_select {x = x} p [] x3 t = elim x3 [ ]
  member_select {x} p (y ∷ l) (Memᴰ.head s) t =
      by_fact (p y) (λ b. Memᴰ x (keep b y (select p l))) (λ _. Memᴰ.head s) (λ n. absurd (not_both (p y) (subst (λ (z : A). T (p z)) s t) n))
  member_select {x} p (y ∷ l) (Memᴰ.tail m) t =
      let later = member_select p l m t in
      by_fact (p y) (λ b. Memᴰ x (keep b y (select p l))) (λ _. Memᴰ.tail later) (λ _. later)

  pub select_member : {x : A} (p : A → Bool) (l : List A) → Memᴰ x (select p l) → Memᴰ x l × T (p x)
  select_member {x = x} p [] m = elim m [ ]
  select_member {x} p (y ∷ l) m = go (p y) refl (λ i. select_member p l i) m
    where
      go : (b : Bool) → p y ≡ b → (Memᴰ x (select p l) → Memᴰ x l × T (p x)) → Memᴰ x (keep b y (select p l)) → Memᴰ x (y ∷ l) × T (p x)
      go true q later (Memᴰ.head s) = (Memᴰ.head s, subst (λ (z : A). T (p z)) (sym s) (subst T (sym q) tt))
      go true q later (Memᴰ.tail i) = let r = later i in (Memᴰ.tail r.0, r.1)
      go false q later i = let r = later i in (Memᴰ.tail r.0, r.1)

  -- ---- a function's values

  -- a number is among the values exactly where it is the value at a member
  pub value_listed : {x : A} (f : A → ℕ) (l : List A) → Memᴰ x l → T (listed (f x) (map f l))
  value_listed {x = x} f [] x'' = elim x'' [ ]
  value_listed {x} f (y ∷ l) (Memᴰ.head s) = listed_same (f x) (f y) (map f l) (ap f s)
  value_listed {x} f (y ∷ l) (Memᴰ.tail m) = listed_tail (f x) (f y) (map f l) (value_listed f l m)

  pub listed_member : (f : A → ℕ) (l : List A) (n : ℕ) → T (listed n (map f l)) → (x : A) × Memᴰ x l × (f x ≡ n)
  listed_member f [] n t = absurd t
  listed_member f (y ∷ l) n t = ⊎_elim (λ (q : n ≡ f y). (y, Memᴰ.head refl, sym q))
      (λ (i : T (listed n (map f l))). let r = listed_member f l n i in (r.0, Memᴰ.tail r.1, r.2)) (listed_cases n (f y) (map f l) t)

-- ---- sublists

-- the entries that pass a test are a sublist
pub select_sublist : {A : Type 0} (p : A → Bool) (l : List A) → Memᴰ (select p l) (sublists l)
select_sublist p [] = Memᴰ.head refl
select_sublist {A} p (x ∷ l) =
    let later = select_sublist p l in
    by_fact (p x) (λ b. Memᴰ (keep b x (select p l)) (map (λ (s : List A). x ∷ s) (sublists l) ++ sublists l))
    (λ _. Memᴰ.append_left (sublists l) (Memᴰ.map (λ (s : List A). x ∷ s) later))
    (λ _. Memᴰ.append_right (map (λ (s : List A). x ∷ s) (sublists l)) later)
