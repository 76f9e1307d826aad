-- Sizes: the number of ones of a set, of a part of it and of the rest. A set of size 1. The size counts the stations that the set has.
-- The library has two of the laws: lib.Count.ones-ones (the size of `full k` is k) and ones-le (a set below 2^k has a size of at most k).
-- Assumes nothing.
use Rattle.std.specs.Prelude.{ℕ, zero, suc, ◌+◌, ◌-◌, ◌/◌, ◌%◌, ◌^◌, ◌≤◌, ◌<◌, ◌≡◌, refl, T}
use Rattle.std.proofs.Common.{sym, ap, ◌∙◌, subst, arith}
use Rattle.std.proofs.Math.Arith.{bin_ind}
use Rattle.std.specs.Int.Bits.{and_step, and_zero_r}
use Rattle.std.proofs.lemmas.Nat.{and_le_l}
use lib.Count.{ones, ones_step, ones-ones}
use Rattle.std.proofs.Math.Dec.{eqb_refl}
use Rattle.lists.specs.Tests.{by_eq}
use Rattle.lists.specs.Count.{bit}
use Rattle.lists.specs.Sums.{sum_to, sum_to_first, sum_to_same}
use Rattle.subset.specs.Sets.{empty, single, has, Part}
use Rattle.subset.specs.laws.Terminals.{has_zero, has_suc, single_half, single_even, has_single}
use Rattle.subset.specs.laws.Parts.{part_le}

pub ones_empty : ones empty ≡ 0
ones_empty = ones-ones 0

pub ones_single : (i : ℕ) → ones (single i) ≡ 1
ones_single zero = ones-ones 1
ones_single (suc i) = omega (arith, ones_step (2 ^ suc i), single_even i, ap ones (single_half i), ones_single i)

-- the size of a set below 2^k is the number of the stations below k that are in it; by the set's halves: station 0 is its last digit, and the others
-- are the stations of its half
pub ones_count : (k w : ℕ) → w < 2 ^ k → ones w ≡ sum_to k (λ i. bit (has w i))
ones_count zero w l =
    let z : w ≡ 0 = omega arith in
    ap ones z ∙ ones-ones 0
ones_count (suc k) w l = omega (
  arith,
  ones_count k (w / 2) (omega arith),
  ones_step w,
  sum_to_first k (λ i. bit (has w i)),
  lowest,
  sum_to_same k (λ i. bit (has w (suc i))) (λ i. bit (has (w / 2) i)) (λ i _. ap bit (has_suc w i)),
)
  where
    lowest : bit (has w 0) ≡ w % 2
    lowest = ap bit (has_zero w) ∙ by_eq (w % 2) 1 (λ b. bit b ≡ w % 2) (λ e. sym e) (λ n. omega arith)

-- a set that is not empty has a size of 1 or more
pub ones_pos : (w : ℕ) → 0 < w → 1 ≤ ones w
ones_pos = bin_ind (λ (w : ℕ). 0 < w → 1 ≤ ones w) (λ h. absurd (omega arith)) step
  where
    half : (w : ℕ) → (0 < w / 2 → 1 ≤ ones (w / 2)) → 0 < w → (h : ℕ) → w / 2 ≡ h → 1 ≤ ones w
    half w ih p zero e = omega (arith, ones_step w)
    half w ih p (suc h) e = omega (arith, ones_step w, ih (omega arith))

    step : (w : ℕ) → (0 < w / 2 → 1 ≤ ones (w / 2)) → 0 < w → 1 ≤ ones w
    step w ih p = half w ih p (w / 2) refl

-- the sizes of a part and of the rest make the whole's
pub ones_part : (w y : ℕ) → Part y w → ones y + ones (w - y) ≡ ones w
ones_part = bin_ind (λ (w : ℕ). (y : ℕ) → Part y w → ones y + ones (w - y) ≡ ones w) base step
  where
    base : (y : ℕ) → Part y 0 → ones y + ones (0 - y) ≡ ones 0
    base y h =
        let z : y ≡ 0 = sym h ∙ and_zero_r y in
        rw z (omega (arith, ones_empty))

    step : (w : ℕ) → ((y : ℕ) → Part y (w / 2) → ones y + ones (w / 2 - y) ≡ ones (w / 2))
        → (y : ℕ) → Part y w → ones y + ones (w - y) ≡ ones w
    step w ih y h =
        let s = and_step y w in
        let b = and_le_l (y / 2) (w / 2) in
        let p : Part (y / 2) (w / 2) = omega arith in
        let l = part_le (y / 2) (w / 2) p in
        let e : (w - y) / 2 ≡ w / 2 - y / 2 = omega arith in
        omega (arith, ap ones e, ih (y / 2) p, ones_step y, ones_step w, ones_step (w - y))

-- a part is no greater than the whole, and smaller where it is not the whole; the rest is smaller where the part is not empty
pub part_size : (w y : ℕ) → Part y w → ones y ≤ ones w
part_size w y p = omega (arith, ones_part w y p)

pub proper_part_size : (w y : ℕ) → Part y w → y < w → ones y < ones w
proper_part_size w y p l = omega (arith, ones_part w y p, ones_pos (w - y) (omega arith))

pub rest_size : (w y : ℕ) → Part y w → 0 < y → ones (w - y) < ones w
rest_size w y p l = omega (arith, ones_part w y p, ones_pos y l)

-- ---- a set of one terminal

is_single : (w : ℕ) → ones w ≡ 1 → (i : ℕ) × (w ≡ single i)
is_single = bin_ind (λ (w : ℕ). ones w ≡ 1 → (i : ℕ) × (w ≡ single i)) (λ h. absurd (omega (arith, ones_empty))) step
  where
    twice : (w i : ℕ) → w % 2 ≡ 0 → w / 2 ≡ single i → (j : ℕ) × (w ≡ single j)
    twice w i q f = let f' : w / 2 ≡ 2 ^ i = f in let g : w ≡ 2 ^ suc i = omega (arith, single_half i, single_even i) in (suc i, g)

    half : (w : ℕ) → (ones (w / 2) ≡ 1 → (i : ℕ) × (w / 2 ≡ single i)) → ones w ≡ 1 → (d : ℕ) → w % 2 ≡ d → (h : ℕ) → w / 2 ≡ h → (i : ℕ) × (w ≡ single i)
    half w ih e zero q h r = let o : ones (w / 2) ≡ 1 = omega (arith, ones_step w) in twice w (ih o).0 (omega arith) (ih o).1
    half w ih e (suc d) q zero r = (0, omega arith)
    half w ih e (suc d) q (suc h) r = absurd (omega (arith, ones_step w, ones_pos (w / 2) (omega arith)))

    step : (w : ℕ) → (ones (w / 2) ≡ 1 → (i : ℕ) × (w / 2 ≡ single i)) → ones w ≡ 1 → (i : ℕ) × (w ≡ single i)
    step w ih e = half w ih e (w % 2) refl (w / 2) refl

-- it is that terminal's
pub one_terminal : (w : ℕ) → ones w ≡ 1 → (i : ℕ) × (w ≡ single i) × T (has w i)
one_terminal w one =
    let (i, e) = is_single w one in (i, e, subst (λ (x : ℕ). T (has x i)) (sym e) (subst T (sym (has_single i i)) (eqb_refl i)))
