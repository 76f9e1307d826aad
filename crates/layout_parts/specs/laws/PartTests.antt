-- The test of a part: what it comes to where the table holds the cells.
-- Assumes nothing.
use Rattle.std.specs.Prelude.{ℕ, ◌+◌, ◌-◌, ◌*◌, ◌^◌, ◌≤◌, ◌<◌, ◌≡◌, ◌⊎◌, Bool, true, false, not, ◌&&◌, List, T, eqb}
use Rattle.std.proofs.Common.{sym, ap₂, ◌∙◌, inl, inr, arith, add-zero, ne_eqb}
use Rattle.limits.specs.Limits.{no_cost}
use Rattle.lists.specs.Tests.{and_passes}
use Rattle.lists.specs.Below.{below_more}
use Rattle.subset.specs.Sets.{is_part, rest}
use Rattle.subset.specs.laws.Parts.{is_part_part, part_le, rest_difference}
use Rattle.cost_table.specs.Cells.{cell_in}
use Rattle.layout_parts.specs.Parts.{splits_in}

-- "none" and another cell do not make a finite one
pub none_no_split : (y w part other cost : ℕ) → is_part y w ≡ true → cost < no_cost → (part ≡ no_cost) ⊎ (other ≡ no_cost)
    → (is_part y w && eqb (part + other) cost) ≡ false
none_no_split y w part other cost p finite (inl e) = and_passes (is_part y w) (eqb (part + other) cost) p ∙ ne_eqb (part + other) cost (λ q. omega arith)
none_no_split y w part other cost p finite (inr e) = and_passes (is_part y w) (eqb (part + other) cost) p ∙ ne_eqb (part + other) cost (λ q. omega arith)

module _ (k : ℕ) (cells : List ℕ) (v w : ℕ) where
  -- r is the test of a part and of the cells that the table holds, and b its answer
  pub splits_at : (y cost : ℕ) (r b : Bool) → 1 ≤ y → cost ≡ cell_in cells (2 ^ k) v w
      → r ≡ (is_part y w && eqb (cell_in cells (2 ^ k) v y + cell_in cells (2 ^ k) v (w - y)) cost) → r ≡ b → splits_in k cells v w y ≡ b
  splits_at y cost r b filled here test answer =
      ap₂ (λ (b : Bool) (c : ℕ). not b && (is_part y w && eqb (cell_in cells (2 ^ k) v y + cell_in cells (2 ^ k) v (w - y)) c))
      (ne_eqb y 0 (λ e. omega arith)) (add-zero _ ∙ sym here) ∙ sym test ∙ answer

  -- no part is empty
  pub none_empty_lem : (j : ℕ) → j < 1 → T (not (splits_in k cells v w j))
  none_empty_lem = below_more (λ j. T (not (splits_in k cells v w j))) 0 (λ j l. absurd (omega arith)) tt

-- the cell of a part, and of the rest, lies in the table where that of the set does
pub part_in : (size y w v len : ℕ) → is_part y w ≡ true → v * size + w < len → v * size + y < len
part_in size y w v len p l = omega (arith, part_le y w (is_part_part y w p))

pub rest_of : (y w z : ℕ) → is_part y w ≡ true → z ≡ rest w y → z ≡ w - y
rest_of y w z p e = e ∙ rest_difference w y (is_part_part y w p)
