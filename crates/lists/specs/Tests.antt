-- Tests and what they say: `T b` is the fact that the test b passes, `T (not b)` that it fails. Proofs by the answer of a test; tests put
-- together by and, or, not; the tests of an equation and of an order; a choice by a test.
-- Assumes nothing.
use Rattle.std.specs.Prelude.{ℕ, suc, ◌<◌, ◌≡◌, refl, ◌≢◌, ◌⊎◌, Bool, true, false, not, ◌&&◌, ◌||◌, cond, T, eqb, ltb}
use Rattle.std.proofs.Common.{sym, ap, subst, inl, inr, arith, eqb→eq, ltb→lt, lt→ltb}
use Rattle.std.proofs.Math.Option.{none, some, some-injective, none-ne-some}
use Rattle.std.proofs.Math.Decide.{ℕ_discrete}
use Rattle.std.proofs.Math.Dec.{eqb_refl}

-- ---- proofs by the answer of a test

-- to prove P of a test, prove it of true where the test passes and of false where it fails; the answer is known as an equation
pub by_test : (b : Bool) (P : Bool → Type 0) → (b ≡ true → P true) → (b ≡ false → P false) → P b
by_test true P f g = f refl
by_test false P f g = g refl

-- the same, with the answer known as a fact
pub by_fact : (b : Bool) (P : Bool → Type 0) → (T b → P true) → (T (not b) → P false) → P b
by_fact true P f g = f tt
by_fact false P f g = g tt

-- ---- a test and its answer

pub fact_true : {b : Bool} → T b → b ≡ true
fact_true {b = true} t = refl
fact_true {b = false} t = absurd t

pub not_fact_false : {b : Bool} → T (not b) → b ≡ false
not_fact_false {b = true} t = absurd t
not_fact_false {b = false} t = refl

pub true_fact : {b : Bool} → b ≡ true → T b
true_fact e = subst T (sym e) tt

pub false_not_fact : {b : Bool} → b ≡ false → T (not b)
false_not_fact e = subst (λ (b : Bool). T (not b)) (sym e) tt

-- no test both passes and fails
pub not_both : (b : Bool) → T b → T (not b) → ⊥
not_both true s t = t
not_both false s t = s

-- two tests are equal when each passes where the other does
pub same_tests : (a b : Bool) → (T a → T b) → (T b → T a) → a ≡ b
same_tests true b f g = sym (fact_true (f tt))
same_tests false true f g = absurd (g tt)
same_tests false false f g = refl

-- ---- tests put together

pub and_left : (a b : Bool) → T (a && b) → T a
and_left true b t = tt
and_left false b t = t

pub and_right : (a b : Bool) → T (a && b) → T b
and_right true b t = t
and_right false b t = absurd t

pub and_both : (a b : Bool) → T a → T b → T (a && b)
and_both true b s t = t
and_both false b s t = s

-- the same with the answers known as equations
pub both_true : (a b : Bool) → (a && b) ≡ true → (a ≡ true) × (b ≡ true)
both_true a b e = (fact_true (and_left a b (true_fact e)), fact_true (and_right a b (true_fact e)))

-- where the second test fails, both together fail
pub and_not : (a b : Bool) → T (not b) → T (not (a && b))
and_not true b t = t
and_not false b t = tt

-- where the first test is known, both together are known or are the second
pub and_fails : (a b : Bool) → a ≡ false → (a && b) ≡ false
and_fails a b e = ap (λ (x : Bool). x && b) e

pub and_passes : (a b : Bool) → a ≡ true → (a && b) ≡ b
and_passes a b e = ap (λ (x : Bool). x && b) e

pub or_cases : (a b : Bool) → T (a || b) → T a ⊎ T b
or_cases true b t = inl tt
or_cases false b t = inr t

pub or_left : (a b : Bool) → T a → T (a || b)
or_left true b t = tt
or_left false b t = absurd t

pub or_right : (a b : Bool) → T b → T (a || b)
or_right true b t = tt
or_right false b t = t

-- ---- the test of an equation

pub eq_fact : {x y : ℕ} → x ≡ y → T (eqb x y)
eq_fact {x} {y} e = subst (λ (z : ℕ). T (eqb x z)) e (eqb_refl x)

pub ne_fact : {x y : ℕ} → x ≢ y → T (not (eqb x y))
ne_fact {x} {y} n = by_fact (eqb x y) (λ b. T (not b)) (λ t. n (eqb→eq x y t)) (λ t. tt)

pub fact_ne : (x y : ℕ) → T (not (eqb x y)) → x ≢ y
fact_ne x y t e = not_both (eqb x y) (eq_fact e) t

-- to prove P of the test of an equation, prove it of true where the two are equal and of false where they differ
pub by_eq : (x y : ℕ) (P : Bool → Type 0) → (x ≡ y → P true) → (x ≢ y → P false) → P (eqb x y)
by_eq x y P f g = by_fact (eqb x y) P (λ t. f (eqb→eq x y t)) (λ t. g (fact_ne x y t))

-- ---- the test of an order

-- a number below j + 1 is below j or is j
pub ltb_suc : (i j : ℕ) → ltb i (suc j) ≡ (ltb i j || eqb i j)
ltb_suc i j = same_tests (ltb i (suc j)) (ltb i j || eqb i j)
    (λ t. there (ltb→lt i (suc j) t) (ℕ_discrete i j))
    (λ t. lt→ltb i (suc j) (back (or_cases (ltb i j) (eqb i j) t)))
  where
    there : i < suc j → Dec (i ≡ j) → T (ltb i j || eqb i j)
    there l (yes e) = or_right (ltb i j) (eqb i j) (eq_fact e)
    there l (no n) = or_left (ltb i j) (eqb i j) (lt→ltb i j (omega arith))

    back : T (ltb i j) ⊎ T (eqb i j) → i < suc j
    back (inl t) = omega (arith, ltb→lt i j t)
    back (inr t) = omega (arith, eqb→eq i j t)

-- ---- a choice by a test

-- a choice that is not the second value was made by a test that passed
pub choice_passed : (b : Bool) (x other : ℕ) → cond b x other ≢ other → T b × (cond b x other ≡ x)
choice_passed true x other n = (tt, refl)
choice_passed false x other n = absurd (n refl)

-- a choice by a test that passes is the first value
pub choice_first : (b : Bool) (x other : ℕ) → T b → cond b x other ≡ x
choice_first true x other t = refl
choice_first false x other t = absurd t

-- something chosen by a test, or else nothing: where it is something the test passed
pub choice_some : {A : Type 0} (b : Bool) (x y : A) → cond b (some x) none ≡ some y → T b × (x ≡ y)
choice_some true x y e = (tt, some-injective x y e)
choice_some false x y e = absurd (none-ne-some y e)
