-- Which stations each set has: the operations on sets, told station by station.
-- Assumes nothing.
use Rattle.std.specs.Prelude.{ℕ, zero, suc, ◌+◌, ◌/◌, ◌%◌, ◌^◌, ◌≤◌, ◌<◌, ◌≡◌, refl, Bool, true, false, not, ◌&&◌, ◌||◌, T, eqb, ltb}
use Rattle.std.proofs.Common.{sym, ap, ap₂, ◌∙◌, subst, div-one, lt_of_lt_of_le, arith, pow_pos, pow_mono, shr-shr, eq-eqb, ne_eqb, lt-ltb, ltb-true, ltb-false}
use Rattle.std.proofs.Math.Bool.{and-false, and-true}
use Rattle.std.proofs.Math.Nat.{zero-div, div-eq_of_lt}
use Rattle.std.proofs.Math.Dec.{eqb-zero-suc, eqb-suc-zero, eqb-suc-suc, leb-suc-suc, leb-suc-zero}
use Rattle.std.specs.Int.Bits.{bit_and, and_step, or_step}
use Rattle.std.proofs.lemmas.Nat.{and_le_l, or_disjoint}
use Rattle.lists.specs.Tests.{by_test, by_eq}
use Rattle.subset.specs.Sets.{empty, full, single, has, rest, union}

-- ---- the lowest station, and the others

pub has_zero : (w : ℕ) → has w 0 ≡ eqb (w % 2) 1
has_zero w = ap (λ (x : ℕ). eqb (x % 2) 1) (div-one w)

pub has_suc : (w i : ℕ) → has w (suc i) ≡ has (w / 2) i
has_suc w i =
    let e : 1 + i ≡ suc i = omega arith in
    ap (λ (x : ℕ). eqb (x % 2) 1) (ap (λ (x : ℕ). w / 2 ^ x) (sym e) ∙ sym (shr-shr w 1 i))

-- ---- the operations

-- to prove P of the lowest station's test, prove it of true where the number is odd and of false where it is even
by_odd : (w : ℕ) (P : Bool → Type 0) → (w % 2 ≡ 1 → P true) → (w % 2 ≡ 0 → P false) → P (eqb (w % 2) 1)
by_odd w P f g = by_eq (w % 2) 1 P f (λ n. g (omega arith))

pub has_and : (a b i : ℕ) → has (bit_and a b) i ≡ (has a i && has b i)
has_and a b zero =
    let s = and_step a b in
    rw (has_zero (bit_and a b), has_zero a, has_zero b)
    (by_odd a (λ t. eqb (bit_and a b % 2) 1 ≡ (t && eqb (b % 2) 1))
    (λ e. ap (λ (x : ℕ). eqb x 1) (let q : bit_and a b % 2 ≡ b % 2 = omega arith in q))
    (λ e. ne_eqb (bit_and a b % 2) 1 (λ q. omega arith)))
has_and a b (suc i) =
    let s = and_step a b in
    let e : bit_and a b / 2 ≡ bit_and (a / 2) (b / 2) = omega arith in
    has_suc (bit_and a b) i ∙ ap (λ (x : ℕ). has x i) e ∙ has_and (a / 2) (b / 2) i ∙ ap₂ ◌&&◌ (sym (has_suc a i)) (sym (has_suc b i))

pub has_union : (a b i : ℕ) → has (union a b) i ≡ (has a i || has b i)
has_union a b zero =
    let s = or_step a b in
    rw (has_zero (union a b), has_zero a, has_zero b)
    (by_odd a (λ t. eqb (union a b % 2) 1 ≡ (t || eqb (b % 2) 1))
    (λ e. eq-eqb (union a b % 2) 1 (omega arith))
    (λ e. ap (λ (x : ℕ). eqb x 1) (let q : union a b % 2 ≡ b % 2 = omega arith in q)))
has_union a b (suc i) =
    let s = or_step a b in
    let e : union a b / 2 ≡ union (a / 2) (b / 2) = omega arith in
    has_suc (union a b) i ∙ ap (λ (x : ℕ). has x i) e ∙ has_union (a / 2) (b / 2) i ∙ ap₂ ◌||◌ (sym (has_suc a i)) (sym (has_suc b i))

-- the union of two sets with no station in common is their sum
pub has_sum : (a b i : ℕ) → bit_and a b ≡ 0 → has (a + b) i ≡ (has a i || has b i)
has_sum a b i d = ap (λ (x : ℕ). has x i) (sym (or_disjoint a b d)) ∙ has_union a b i

pub has_rest : (w y i : ℕ) → has (rest w y) i ≡ (has w i && not (has y i))
has_rest w y zero =
    let s = and_step w y in
    let l = and_le_l (w / 2) (y / 2) in
    rw (has_zero (rest w y), has_zero w, has_zero y)
    (by_odd y (λ t. eqb (rest w y % 2) 1 ≡ (eqb (w % 2) 1 && not t))
    (λ e. ne_eqb (rest w y % 2) 1 (λ q. omega arith) ∙ sym (and-false (eqb (w % 2) 1)))
    (λ e. ap (λ (x : ℕ). eqb x 1) (let q : rest w y % 2 ≡ w % 2 = omega arith in q) ∙ sym (and-true (eqb (w % 2) 1))))
has_rest w y (suc i) =
    let s = and_step w y in
    let l = and_le_l (w / 2) (y / 2) in
    let e : rest w y / 2 ≡ rest (w / 2) (y / 2) = omega arith in
    has_suc (rest w y) i ∙ ap (λ (x : ℕ). has x i) e ∙ has_rest (w / 2) (y / 2) i
    ∙ ap₂ (λ (s t : Bool). s && not t) (sym (has_suc w i)) (sym (has_suc y i))

-- ---- the empty set, a single station's set and the full set

pub has_empty : (i : ℕ) → has empty i ≡ false
has_empty i = ap (λ (x : ℕ). eqb (x % 2) 1) (zero-div (2 ^ i))

-- the set of station i + 1 is twice that of station i
pub single_half : (i : ℕ) → 2 ^ suc i / 2 ≡ 2 ^ i
single_half i = omega arith

pub single_even : (i : ℕ) → 2 ^ suc i % 2 ≡ 0
single_even i = omega arith

pub has_single : (i j : ℕ) → has (single i) j ≡ eqb i j
has_single zero zero = refl
has_single zero (suc j) = has_suc 1 j ∙ has_empty j ∙ sym (eqb-zero-suc j)
has_single (suc i) zero =
    has_zero (single (suc i)) ∙ ap (λ (x : ℕ). eqb x 1) (single_even i) ∙ sym (eqb-suc-zero i)
has_single (suc i) (suc j) =
    has_suc (single (suc i)) j ∙ ap (λ (x : ℕ). has x j) (single_half i) ∙ has_single i j ∙ sym (eqb-suc-suc i j)

pub has_full : (k i : ℕ) → has (full k) i ≡ ltb i k
has_full zero i = has_empty i ∙ sym (leb-suc-zero i)
has_full (suc k) zero = has_zero (full (suc k)) ∙ eq-eqb (full (suc k) % 2) 1 (omega (arith, pow_pos k)) ∙ sym (lt-ltb 0 (suc k) (omega arith))
has_full (suc k) (suc i) =
    let e : full (suc k) / 2 ≡ full k = omega (arith, pow_pos k) in
    has_suc (full (suc k)) i ∙ ap (λ (x : ℕ). has x i) e ∙ has_full k i ∙ sym (leb-suc-suc (suc i) k)

-- ---- bounds

-- the stations of a set below 2^k are below k
pub has_lt : (k w i : ℕ) → w < 2 ^ k → T (has w i) → i < k
has_lt k w i h t = by_test (ltb i k) (λ _. i < k) (λ e. ltb-true i k e) (λ e. absurd (subst T (none (ltb-false i k e)) t))
  where
    none : k ≤ i → has w i ≡ false
    none l = ap (λ (x : ℕ). eqb (x % 2) 1) (div-eq_of_lt (lt_of_lt_of_le h (pow_mono l)))
