-- Which numbers a list has, as a test: of lists put together, of a function's values, by how often a number occurs, and among the entries
-- that pass a test.
-- What every entry of a list has is what each listed number has; a list whose entries all differ has each number at most once.
-- Assumes nothing.
use Rattle.std.specs.Prelude.{ℕ, zero, suc, ◌+◌, ◌≤◌, ◌≡◌, refl, ◌≢◌, ◌⊎◌, Bool, true, false, not, ◌&&◌, ◌||◌, List, [], ◌∷◌, ◌++◌, map, T, eqb}
use Rattle.std.proofs.Common.{sym, ap, subst, inl, inr, ⊎_elim, arith, eqb→eq}
use Rattle.std.proofs.Math.Dec.{eqb_refl}
use Rattle.lists.specs.Tests.{by_fact, by_eq, eq_fact, fact_true, not_both, and_left, and_right, and_both, or_cases, or_left, or_right}
use Rattle.lists.specs.Every.{Every}
use Rattle.lists.specs.Select.{select, every_select}
use Rattle.lists.specs.Count.{bit, count, count_select}
use Rattle.lists.specs.Sorted.{Sorted}

-- x is an entry of the list
abbrev pub listed : ℕ → List ℕ → Bool
listed x [] = false
listed x (y ∷ l) = eqb x y || listed x l

pub listed_head : (x : ℕ) (l : List ℕ) → T (listed x (x ∷ l))
listed_head x l = or_left (eqb x x) (listed x l) (eqb_refl x)

pub listed_same : (x y : ℕ) (l : List ℕ) → x ≡ y → T (listed x (y ∷ l))
listed_same x y l e = or_left (eqb x y) (listed x l) (eq_fact e)

pub listed_tail : (x y : ℕ) (l : List ℕ) → T (listed x l) → T (listed x (y ∷ l))
listed_tail x y l t = or_right (eqb x y) (listed x l) t

-- a listed number is the first entry, or stands among the others
pub listed_cases : (x y : ℕ) (l : List ℕ) → T (listed x (y ∷ l)) → (x ≡ y) ⊎ T (listed x l)
listed_cases x y l t = go (or_cases (eqb x y) (listed x l) t)
  where
    go : T (eqb x y) ⊎ T (listed x l) → (x ≡ y) ⊎ T (listed x l)
    go (inl s) = inl (eqb→eq x y s)
    go (inr s) = inr s

-- a number listed in a list of one entry is that entry
pub listed_only : (x y : ℕ) → T (listed x (y ∷ [])) → x ≡ y
listed_only x y t = ⊎_elim (λ (e : x ≡ y). e) (λ (z : ⊥). absurd z) (listed_cases x y [] t)

-- ---- lists put together

pub listed_left : (x : ℕ) (a b : List ℕ) → T (listed x a) → T (listed x (a ++ b))
listed_left x [] b t = absurd t
listed_left x (y ∷ a) b t =
    ⊎_elim (λ (q : x ≡ y). listed_same x y (a ++ b) q) (λ (i : T (listed x a)). listed_tail x y (a ++ b) (listed_left x a b i)) (listed_cases x y a t)

pub listed_right : (x : ℕ) (a b : List ℕ) → T (listed x b) → T (listed x (a ++ b))
listed_right x [] b t = t
listed_right x (y ∷ a) b t = listed_tail x y (a ++ b) (listed_right x a b t)

-- an entry of two lists put together is one of the first or one of the second
pub listed_append : (x : ℕ) (a b : List ℕ) → T (listed x (a ++ b)) → T (listed x a) ⊎ T (listed x b)
listed_append x [] b t = inr t
listed_append x (y ∷ a) b t = ⊎_elim (λ (q : x ≡ y). inl (listed_same x y a q))
    (λ (i : T (listed x (a ++ b))). ⊎_elim (λ (j : T (listed x a)). inl (listed_tail x y a j)) (λ (j : T (listed x b)). inr j) (listed_append x a b i))
    (listed_cases x y (a ++ b) t)

-- ---- a function's values

module _ (f : ℕ → ℕ) where
  -- the value at an entry is listed among the values
  pub listed_value : (l : List ℕ) (e : ℕ) → T (listed e l) → T (listed (f e) (map f l))
  listed_value [] e t = absurd t
  listed_value (d ∷ l) e t = ⊎_elim (λ (q : e ≡ d). listed_same (f e) (f d) (map f l) (ap f q))
      (λ (i : T (listed e l)). listed_tail (f e) (f d) (map f l) (listed_value l e i)) (listed_cases e d l t)

  -- a listed value is that of an entry
  pub value_of : (l : List ℕ) (x : ℕ) → T (listed x (map f l)) → (e : ℕ) × T (listed e l) × (f e ≡ x)
  value_of [] x t = absurd t
  value_of (d ∷ l) x t = ⊎_elim (λ (q : x ≡ f d). (d, listed_head d l, sym q))
      (λ (i : T (listed x (map f l))). let r = value_of l x i in (r.0, listed_tail r.0 d l r.1, r.2)) (listed_cases x (f d) (map f l) t)

-- ---- what every entry has

module _ (P : ℕ → Type 0) where
  -- what every entry has, each listed number has, and the other way round
  pub every_listed : (l : List ℕ) → Every P l → (x : ℕ) → T (listed x l) → P x
  every_listed [] e x t = absurd t
  every_listed (y ∷ l) e x t =
      ⊎_elim (λ (q : x ≡ y). subst P (sym q) e.0) (λ (i : T (listed x l)). every_listed l e.1 x i) (listed_cases x y l t)

  pub listed_every : (l : List ℕ) → ((x : ℕ) → T (listed x l) → P x) → Every P l
  listed_every [] h = tt
  listed_every (y ∷ l) h = (h y (listed_head y l), listed_every l (λ x t. h x (listed_tail x y l t)))

-- ---- how often a number occurs

-- a number is listed exactly where it occurs at least once
pub count_listed : (x : ℕ) (l : List ℕ) → 1 ≤ count x l → T (listed x l)
count_listed x [] h = absurd (omega arith)
count_listed x (y ∷ l) h =
    by_fact (eqb x y) (λ b. 1 ≤ bit b + count x l → T (b || listed x l)) (λ _ _. tt) (λ _ g. count_listed x l (omega arith)) h

pub listed_count : (x : ℕ) (l : List ℕ) → T (listed x l) → 1 ≤ count x l
listed_count x [] t = absurd t
listed_count x (y ∷ l) t =
    by_fact (eqb x y) (λ b. T (b || listed x l) → 1 ≤ bit b + count x l) (λ _ _. omega arith) (λ _ s. omega (arith, listed_count x l s)) t

pub unlisted_count : (x : ℕ) (l : List ℕ) → T (not (listed x l)) → count x l ≡ 0
unlisted_count x l n = go (count x l) refl
  where
    go : (c : ℕ) → count x l ≡ c → c ≡ 0
    go zero e = refl
    go (suc c) e = absurd (not_both (listed x l) (count_listed x l (omega arith)) n)

-- a number that occurs at most once occurs once where it is listed, else not at all
pub once_listed : (x : ℕ) (l : List ℕ) → count x l ≤ 1 → count x l ≡ bit (listed x l)
once_listed x l few =
    by_fact (listed x l) (λ b. count x l ≡ bit b) (λ t. omega (arith, listed_count x l t)) (λ n. unlisted_count x l n)

-- ---- the entries that pass a test

-- an entry that passes is among them, and what is among them is an entry that passes
pub listed_select : (x : ℕ) (p : ℕ → Bool) (l : List ℕ) → T (listed x l) → T (p x) → T (listed x (select p l))
listed_select x p l t s = count_listed x (select p l) (omega (arith, listed_count x l t, count_select x p l (fact_true s)))

pub select_listed : (x : ℕ) (p : ℕ → Bool) (l : List ℕ) → T (listed x (select p l)) → T (listed x l) × T (p x)
select_listed x p l =
    let entries : Every (λ y. T (listed y l)) l = listed_every (λ y. T (listed y l)) l (λ y t. t) in
    every_listed (λ y. T (listed y l) × T (p y)) (select p l) (every_select (λ y. T (listed y l)) p l entries) x

-- ---- lists whose entries all differ

-- no two entries are equal
abbrev pub Distinct : List ℕ → Type 0
Distinct l = Sorted ◌≢◌ l

-- the test of it
abbrev pub are_distinct : List ℕ → Bool
are_distinct [] = true
are_distinct (x ∷ l) = not (listed x l) && are_distinct l

-- x differs from every entry exactly where it is not listed
pub differ_unlisted : (x : ℕ) (l : List ℕ) → Every (λ y. x ≢ y) l → T (not (listed x l))
differ_unlisted x l e = by_fact (listed x l) (λ b. T (not b)) (λ t. absurd (every_listed (λ y. x ≢ y) l e x t refl)) (λ _. tt)

pub unlisted_differ : (x : ℕ) (l : List ℕ) → T (not (listed x l)) → Every (λ y. x ≢ y) l
unlisted_differ x l n = listed_every (λ y. x ≢ y) l (λ y t q. not_both (listed x l) (subst (λ (z : ℕ). T (listed z l)) (sym q) t) n)

-- the test passes exactly where no two entries are equal
pub distinct_test : (l : List ℕ) → Distinct l → T (are_distinct l)
distinct_test [] d = tt
distinct_test (x ∷ l) d = and_both (not (listed x l)) (are_distinct l) (differ_unlisted x l d.0) (distinct_test l d.1)

pub test_distinct : (l : List ℕ) → T (are_distinct l) → Distinct l
test_distinct [] t = tt
test_distinct (x ∷ l) t = (
  unlisted_differ x l (and_left (not (listed x l)) (are_distinct l) t),
  test_distinct l (and_right (not (listed x l)) (are_distinct l) t),
)

-- no two entries are equal exactly where each number occurs at most once
pub distinct_once : (l : List ℕ) → Distinct l → (x : ℕ) → count x l ≤ 1
distinct_once [] d x = omega arith
distinct_once (y ∷ l) d x = by_eq x y (λ b. bit b + count x l ≤ 1)
    (λ q. omega (arith, ap (λ (z : ℕ). count z l) q, unlisted_count y l (differ_unlisted y l d.0)))
    (λ _. omega (arith, distinct_once l d.1 x))

pub once_distinct : (l : List ℕ) → ((x : ℕ) → count x l ≤ 1) → Distinct l
once_distinct [] h = tt
once_distinct (y ∷ l) h = (
  unlisted_differ y l (by_fact (listed y l) (λ b. T (not b)) (λ t. absurd (twice t)) (λ _. tt)),
  once_distinct l (λ x. omega (arith, h x)),
)
  where
    twice : T (listed y l) → ⊥
    twice t = by_eq y y (λ b. bit b + count y l ≤ 1 → ⊥) (λ _ le. omega (arith, listed_count y l t)) (λ n _. n refl) (h y)
