-- The entries of a list of different numbers below n, in rising order: the numbers below n that are listed. Every sum over them is that
-- over the list.
-- Assumes nothing.
use Rattle.std.specs.Prelude.{ℕ, zero, suc, ◌+◌, ◌*◌, ◌≤◌, ◌<◌, ◌≡◌, refl, Bool, not, ◌||◌, List, [], ◌∷◌, T, eqb}
use Rattle.std.proofs.Common.{sym, ap, ap₂, ◌∙◌, arith}
use Rattle.lists.specs.Tests.{by_fact, by_eq, not_fact_false}
use Rattle.lists.specs.Select.{keep, select}
use Rattle.lists.specs.Count.{bit}
use Rattle.lists.specs.Numbers.{numbers}
use Rattle.lists.specs.Listed.{listed, listed_head, listed_tail, Distinct, differ_unlisted}
use Rattle.lists.specs.Sums.{sum_by, sum_add, Same}

-- the listed numbers below n
abbrev pub rising : ℕ → List ℕ → List ℕ
rising n L = select (λ e. listed e L) (numbers 0 n)

-- f x where the test passes, else 0
abbrev counted : (ℕ → ℕ) → Bool → ℕ → ℕ
counted f b x = bit b * f x

-- the sum over the entries that pass a test
sum_select : (f : ℕ → ℕ) (p : ℕ → Bool) (l : List ℕ) → sum_by f (select p l) ≡ sum_by (λ x. counted f (p x) x) l
sum_select f p [] = refl
sum_select f p (x ∷ l) = by_fact (p x) (λ b. sum_by f (keep b x (select p l)) ≡ counted f b x + sum_by (λ x. counted f (p x) x) l)
    (λ _. omega (arith, sum_select f p l)) (λ _. omega (arith, sum_select f p l))

-- functions with the same values have the same sums
sum_same : (f g : ℕ → ℕ) → ((x : ℕ) → f x ≡ g x) → (l : List ℕ) → sum_by f l ≡ sum_by g l
sum_same f g h [] = refl
sum_same f g h (x ∷ l) = ap₂ ◌+◌ (h x) (sum_same f g h l)

-- the sum over the rising numbers in which only d counts: 0 where d is below them, f d where it is one of them
sum_none : (f : ℕ → ℕ) (d a n : ℕ) → d < a → sum_by (λ x. counted f (eqb x d) x) (numbers a n) ≡ 0
sum_none f d a zero l = refl
sum_none f d a (suc n) l = by_eq a d (λ b. counted f b a + sum_by (λ x. counted f (eqb x d) x) (numbers (suc a) n) ≡ 0)
    (λ q. absurd (omega arith)) (λ _. omega (arith, sum_none f d (suc a) n (omega arith)))

sum_one : (f : ℕ → ℕ) (d a n : ℕ) → a ≤ d → d < a + n → sum_by (λ x. counted f (eqb x d) x) (numbers a n) ≡ f d
sum_one f d a zero l h = absurd (omega arith)
sum_one f d a (suc n) l h = by_eq a d (λ b. counted f b a + sum_by (λ x. counted f (eqb x d) x) (numbers (suc a) n) ≡ f d)
    (λ q. omega (arith, sum_none f d (suc a) n (omega arith), ap f q)) (λ p. omega (arith, sum_one f d (suc a) n (omega arith) (omega arith)))

-- a number d that is not in the list counts once more when it is put before it
counted_more : (f : ℕ → ℕ) (d : ℕ) (L : List ℕ) → T (not (listed d L))
    → (x : ℕ) → counted f (eqb x d || listed x L) x ≡ counted f (eqb x d) x + counted f (listed x L) x
counted_more f d L n x = by_eq x d (λ b. counted f (b || listed x L) x ≡ counted f b x + counted f (listed x L) x)
    (λ q. omega (arith, ap (λ (b : Bool). counted f b x) (ap (λ (y : ℕ). listed y L) q ∙ not_fact_false n))) (λ _. omega arith)

-- every sum over different numbers below n is that over them in rising order
pub rising_same : (n : ℕ) (L : List ℕ) → ((e : ℕ) → T (listed e L) → e < n) → Distinct L → Same L (rising n L)
rising_same n [] lt d f = sym (sum_select f (λ e. listed e []) (numbers 0 n) ∙ none (numbers 0 n))
  where
    none : (l : List ℕ) → sum_by (λ x. counted f (listed x []) x) l ≡ 0
    none [] = refl
    none (x ∷ l) = omega (arith, none l)
rising_same n (e ∷ L) lt d f =
    let all : List ℕ = numbers 0 n in
    let at_e : ℕ → ℕ = λ x. counted f (eqb x e) x in
    let in_L : ℕ → ℕ = λ x. counted f (listed x L) x in
    omega (
      arith,
      rising_same n L (λ x i. lt x (listed_tail x e L i)) d.1 f,
      sum_select f (λ x. listed x L) all,
      sum_select f (λ x. listed x (e ∷ L)) all,
      sum_same (λ x. counted f (listed x (e ∷ L)) x) (λ x. at_e x + in_L x) (counted_more f e L (differ_unlisted e L d.0)) all,
      sum_add at_e in_L all,
      sum_one f e 0 n (omega arith) (omega (arith, lt e (listed_head e L))),
    )
