-- The parts of a set in falling order: from a part y of w the next lower part is what y - 1 and w have in common. From w itself it is w without its
-- lowest station.
-- Assumes nothing.
use Rattle.std.specs.Prelude.{ℕ, zero, suc, ◌-◌, ◌/◌, ◌%◌, ◌≤◌, ◌<◌, ◌≡◌, refl, ◌⊎◌, T}
use Rattle.std.proofs.Common.{sym, ap, subst, inl, inr, ⊎_elim, arith}
use Rattle.std.proofs.Math.Arith.{bin_ind}
use Rattle.std.specs.Int.Bits.{bit_and, and_step, and_self, and_zero_r}
use Rattle.std.proofs.lemmas.Nat.{and_le_l}
use Rattle.lists.specs.Tests.{and_right}
use Rattle.subset.specs.Sets.{has, Part}
use Rattle.subset.specs.laws.Terminals.{has_and}
use Rattle.subset.specs.laws.Parts.{has_part, part_le, difference_part}

-- what a number and w have in common is a part of w
pub common_part : (x w : ℕ) → Part (bit_and x w) w
common_part x w = has_part (bit_and x w) w (λ i t. and_right (has x i) (has w i) (subst T (has_and x w i) t))

-- no part of w lies between them
pub next_part : (w y z : ℕ) → Part y w → Part z w → z < y → z ≤ bit_and (y - 1) w
next_part = bin_ind (λ (w : ℕ). (y z : ℕ) → Part y w → Part z w → z < y → z ≤ bit_and (y - 1) w) base step
  where
    base : (y z : ℕ) → Part y 0 → Part z 0 → z < y → z ≤ bit_and (y - 1) 0
    base y z p q l = absurd (omega (arith, p, and_zero_r y))

    step : (w : ℕ) → ((y z : ℕ) → Part y (w / 2) → Part z (w / 2) → z < y → z ≤ bit_and (y - 1) (w / 2))
        → (y z : ℕ) → Part y w → Part z w → z < y → z ≤ bit_and (y - 1) w
    step w ih y z p q l =
        let sy = and_step y w in
        let sz = and_step z w in
        let by = and_le_l (y / 2) (w / 2) in
        let bz = and_le_l (z / 2) (w / 2) in
        let py : Part (y / 2) (w / 2) = omega arith in
        let pz : Part (z / 2) (w / 2) = omega arith in
        go (y % 2) refl py pz
      where
        go : (d : ℕ) → y % 2 ≡ d → Part (y / 2) (w / 2) → Part (z / 2) (w / 2) → z ≤ bit_and (y - 1) w
        go zero e py pz =
            let h : (y - 1) / 2 ≡ y / 2 - 1 = omega arith in
            omega (arith, and_step (y - 1) w, and_step z w, ap (λ (x : ℕ). bit_and x (w / 2)) h, ih (y / 2) (z / 2) py pz (omega arith))
        go (suc zero) e py pz =
            let h : (y - 1) / 2 ≡ y / 2 = omega arith in
            omega (arith, and_step (y - 1) w, ap (λ (x : ℕ). bit_and x (w / 2)) h)
        go (suc (suc d)) e py pz = absurd (omega arith)

-- of two parts that make w, one is without the lowest station
pub lowest_either : (w z : ℕ) → Part z w → 0 < w → Part z (bit_and (w - 1) w) ⊎ Part (w - z) (bit_and (w - 1) w)
lowest_either = bin_ind (λ (w : ℕ). (z : ℕ) → Part z w → 0 < w → Part z (bit_and (w - 1) w) ⊎ Part (w - z) (bit_and (w - 1) w))
    (λ z p pos. absurd (omega arith)) step
  where
    step : (w : ℕ) → ((z : ℕ) → Part z (w / 2) → 0 < w / 2 → Part z (bit_and (w / 2 - 1) (w / 2)) ⊎ Part (w / 2 - z) (bit_and (w / 2 - 1) (w / 2)))
        → (z : ℕ) → Part z w → 0 < w → Part z (bit_and (w - 1) w) ⊎ Part (w - z) (bit_and (w - 1) w)
    step w ih z p pos = go (w % 2) (z % 2) refl refl
      where
        u : ℕ
        u = bit_and (w - 1) w

        half : Part (z / 2) (w / 2)
        half = omega (arith, and_step z w, and_le_l (z / 2) (w / 2))

        half_le : z / 2 ≤ w / 2
        half_le = part_le (z / 2) (w / 2) half

        -- an even number is a part where its half is one
        even_part : (x y : ℕ) → x % 2 ≡ 0 → x / 2 ≡ y → Part y (u / 2) → Part x u
        even_part x y e h q = omega (arith, and_step x u, ap (λ (a : ℕ). bit_and a (u / 2)) h)

        go : (d e : ℕ) → w % 2 ≡ d → z % 2 ≡ e → Part z u ⊎ Part (w - z) u
        go zero zero dw dz =
            let h : (w - 1) / 2 ≡ w / 2 - 1 = omega arith in
            let same : u / 2 ≡ bit_and (w / 2 - 1) (w / 2) = omega (arith, and_step (w - 1) w, ap (λ (a : ℕ). bit_and a (w / 2)) h) in
            ⊎_elim (λ q. inl (even_part z (z / 2) dz refl (subst (Part (z / 2)) (sym same) q)))
            (λ q. inr (even_part (w - z) (w / 2 - z / 2) (omega (arith, half_le)) (omega (arith, half_le)) (subst (Part (w / 2 - z / 2)) (sym same) q)))
            (ih (z / 2) half (omega arith))
        go zero (suc e) dw dz = absurd (omega (arith, and_step z w))
        go (suc zero) e dw dz =
            let h : (w - 1) / 2 ≡ w / 2 = omega arith in
            let same : u / 2 ≡ w / 2 = omega (arith, and_step (w - 1) w, ap (λ (a : ℕ). bit_and a (w / 2)) h, and_self (w / 2)) in
            by_end e dz same
          where
            by_end : (e : ℕ) → z % 2 ≡ e → u / 2 ≡ w / 2 → Part z u ⊎ Part (w - z) u
            by_end zero dz same = inl (even_part z (z / 2) dz refl (subst (Part (z / 2)) (sym same) half))
            by_end (suc zero) dz same =
                inr (even_part (w - z) (w / 2 - z / 2) (omega (arith, half_le)) (omega (arith, half_le))
                (subst (Part (w / 2 - z / 2)) (sym same) (difference_part (w / 2) (z / 2) half)))
            by_end (suc (suc e)) dz same = absurd (omega arith)
        go (suc (suc d)) e dw dz = absurd (omega arith)
