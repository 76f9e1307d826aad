-- The set of the stations below k that pass a test: it is below 2^k and has exactly these stations, and every set below 2^k is such a set.
-- The sets of two tests that no station passes both of have no station in common, and their sum is the set of either test.
-- Assumes nothing.
use Rattle.std.specs.Prelude.{ℕ, zero, suc, ◌+◌, ◌*◌, ◌/◌, ◌%◌, ◌^◌, ◌<◌, min, ◌≡◌, refl, Bool, true, false, not, ◌||◌, T, eqb}
use Rattle.std.proofs.Common.{ap, ap₂, ◌∙◌, arith}
use Rattle.std.proofs.Math.Dec.{eqb-zero-suc, eqb-suc-zero, eqb-suc-suc}
use Rattle.std.specs.Int.Bits.{bit_and, and_step}
use Rattle.lists.specs.Count.{bit}
use Rattle.subset.specs.Sets.{has, single}
use Rattle.subset.specs.laws.Terminals.{has_zero, has_suc}

-- the set of the stations below k that pass the test f
abbrev pub set_of : ℕ → (ℕ → Bool) → ℕ
set_of zero f = 0
set_of (suc k) f = bit (f zero) + 2 * set_of k (λ i. f (suc i))

low_lt : (b : Bool) → bit b < 2
low_lt true = omega arith
low_lt false = omega arith

low_test : (b : Bool) → eqb (bit b) 1 ≡ b
low_test true = refl
low_test false = refl

-- half of it is the set of the other stations, and what is left over is station 0's
half : (b : Bool) (x : ℕ) → (bit b + 2 * x) / 2 ≡ x
half b x = omega (arith, low_lt b)

odd : (b : Bool) (x : ℕ) → (bit b + 2 * x) % 2 ≡ bit b
odd b x = omega (arith, low_lt b)

pub set_of_lt : (k : ℕ) (f : ℕ → Bool) → set_of k f < 2 ^ k
set_of_lt zero f = omega arith
set_of_lt (suc k) f = omega (arith, set_of_lt k (λ i. f (suc i)), low_lt (f zero))

-- two tests that agree below k give the same set
pub set_of_same : (k : ℕ) (f g : ℕ → Bool) → ((i : ℕ) → i < k → f i ≡ g i) → set_of k f ≡ set_of k g
set_of_same zero f g h = refl
set_of_same (suc k) f g h =
    ap₂ (λ (b : Bool) (x : ℕ). bit b + 2 * x) (h zero (omega arith)) (set_of_same k (λ i. f (suc i)) (λ i. g (suc i)) (λ i l. h (suc i) (omega arith)))

-- a station is in the set exactly where it passes
pub has_set_of : (k : ℕ) (f : ℕ → Bool) (i : ℕ) → i < k → has (set_of k f) i ≡ f i
has_set_of zero f i l = absurd (omega arith)
has_set_of (suc k) f zero l =
    has_zero (set_of (suc k) f) ∙ ap (λ (x : ℕ). eqb x 1) (odd (f zero) (set_of k (λ i. f (suc i)))) ∙ low_test (f zero)
has_set_of (suc k) f (suc i) l =
    has_suc (set_of (suc k) f) i ∙ ap (λ (x : ℕ). has x i) (half (f zero) (set_of k (λ j. f (suc j)))) ∙ has_set_of k (λ j. f (suc j)) i (omega arith)

-- the set of the stations that are in w is w
pub set_of_has : (k w : ℕ) → w < 2 ^ k → set_of k (has w) ≡ w
set_of_has zero w l = omega arith
set_of_has (suc k) w l =
    let later : set_of k (λ i. has w (suc i)) ≡ w / 2 =
    set_of_same k (λ i. has w (suc i)) (has (w / 2)) (λ i _. has_suc w i) ∙ set_of_has k (w / 2) (omega arith) in
    omega (arith, ap bit (has_zero w), low (w % 2) refl)
  where
    low : (d : ℕ) → w % 2 ≡ d → bit (eqb d 1) ≡ d
    low zero e = refl
    low (suc zero) e = refl
    low (suc (suc d)) e = absurd (omega arith)

pub set_of_none : (k : ℕ) → set_of k (λ i. false) ≡ 0
set_of_none zero = refl
set_of_none (suc k) = omega (arith, set_of_none k)

pub set_of_single : (k j : ℕ) → j < k → set_of k (λ i. eqb i j) ≡ single j
set_of_single zero j l = absurd (omega arith)
set_of_single (suc k) zero l = omega (arith, set_of_same k (λ i. eqb (suc i) 0) (λ i. false) (λ i _. eqb-suc-zero i), set_of_none k)
set_of_single (suc k) (suc j) l = omega (
  arith,
  ap bit (eqb-zero-suc j),
  set_of_same k (λ i. eqb (suc i) (suc j)) (λ i. eqb i j) (λ i _. eqb-suc-suc i j),
  set_of_single k j (omega arith),
  (let double : 2 ^ suc j ≡ 2 * 2 ^ j = omega arith in let same : single (suc j) ≡ 2 * single j = double in same),
)

-- where no station passes both tests, the set of either is the sum of the two sets, and they have no station in common
pub set_of_union : (k : ℕ) (f g : ℕ → Bool) → ((i : ℕ) → i < k → T (f i) → T (not (g i))) → set_of k (λ i. f i || g i) ≡ set_of k f + set_of k g
set_of_union zero f g h = omega arith
set_of_union (suc k) f g h =
    omega (arith, set_of_union k (λ i. f (suc i)) (λ i. g (suc i)) (λ i l. h (suc i) (omega arith)), low (f zero) (g zero) (h zero (omega arith)))
  where
    low : (a b : Bool) → (T a → T (not b)) → bit (a || b) ≡ bit a + bit b
    low true true h = absurd (h tt)
    low true false h = refl
    low false b h = omega arith

pub set_of_apart : (k : ℕ) (f g : ℕ → Bool) → ((i : ℕ) → i < k → T (f i) → T (not (g i))) → bit_and (set_of k f) (set_of k g) ≡ 0
set_of_apart zero f g h = refl
set_of_apart (suc k) f g h =
    let x : ℕ = set_of k (λ i. f (suc i)) in
    let y : ℕ = set_of k (λ i. g (suc i)) in
    and_step (bit (f zero) + 2 * x) (bit (g zero) + 2 * y)
    ∙ rw (half (f zero) x, half (g zero) y, odd (f zero) x, odd (g zero) y)
    (omega (arith, set_of_apart k (λ i. f (suc i)) (λ i. g (suc i)) (λ i l. h (suc i) (omega arith)), low (f zero) (g zero) (h zero (omega arith))))
  where
    low : (a b : Bool) → (T a → T (not b)) → min (bit a) (bit b) ≡ 0
    low true true h = absurd (h tt)
    low true false h = refl
    low false b h = omega arith
