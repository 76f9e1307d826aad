-- The cells of one set at four nodes of a table, and the rows of four nodes as a list that has four cells for each set; and what is asked of the table.
-- Assumes nothing.
use Rattle.std.specs.Prelude.{ℕ, ◌+◌, ◌-◌, ◌*◌, ◌≤◌, ◌<◌, refl, List, length}
use Rattle.std.proofs.Common.{arith}
use Rattle.limits.specs.Limits.{max_subsets}
use Rattle.subset.specs.laws.Parts.{part_le}
use Rattle.cost_table.specs.Cells.{cell_in}
use Rattle.lanes.specs.declared.Four.{Four}
use Rattle.lanes.specs.laws.Four.{nth}
use Rattle.lanes.specs.laws.Columns.{Taken}
use Rattle.working_none.specs.laws.WorkingNone.{working_none}
use Rattle.working_none.specs.laws.Low.{AllLow}
use Rattle.set_splits.specs.laws.FourCosts.{set_costs, FourCosts}
use Rattle.set_splits.specs.laws.BestSplit.{best_split_same, BestSplits}

-- ---- in a table

-- the cells of the nodes r 0 to r 3
abbrev pub cells_at : List ℕ → (size : ℕ) → (r : ℕ → ℕ) → (j w : ℕ) → ℕ
cells_at cells size r j w = cell_in cells size (r j) w

-- the rows of four nodes are in the table, and no cell is above "none"
pub record Rows (cells : List ℕ) (size : ℕ) (r : ℕ → ℕ) : Type 0 where
  pub few : size ≤ max_subsets
  pub fit : (j w : ℕ) → j < 4 → w < size → r j * size + w < length cells
  pub low : AllLow cells

-- what is asked where the cells of one set are read or written
pub rows_fit : {cells : List ℕ} {size w : ℕ} {r : ℕ → ℕ} → Rows cells size r → w < size
    → (r 0 * size + w < length cells) × (r 1 * size + w < length cells) × (r 2 * size + w < length cells) × (r 3 * size + w < length cells)
rows_fit {w = w} B small = (B.fit 0 w (omega arith) small, B.fit 1 w (omega arith) small, B.fit 2 w (omega arith) small, B.fit 3 w (omega arith) small)

-- ---- as a list

-- the first w sets have the cells of the nodes r 0 to r 3
abbrev pub RowsTaken : (cells : List ℕ) → (size : ℕ) → (r : ℕ → ℕ) → (w : ℕ) → (before after : List ℕ) → Type 0
RowsTaken cells size r w before after = Taken (λ y j. cells_at cells size r j y) w before after

-- the rows of four nodes, taken set by set, are such a list
pub taken_costs : {cells before after : List ℕ} {size w : ℕ} {r : ℕ → ℕ} → Rows cells size r → size * 4 ≤ length before → w < size
    → RowsTaken cells size r size before after → FourCosts after w
taken_costs {size = size} {w} {r} B long small T = record {
  few = omega (arith, B.few);
  fits = omega (arith, T.same_length);
  low = λ j y s l. let on : y < size = omega arith in omega (arith, T.taken y j on s, B.low (r j * size + y) (B.fit j y s on));
}

-- the least costs in a list of the rows of four nodes, set by set, are those in the table
pub best_in_table : (cells : List ℕ) (r : ℕ → ℕ) {before after : List ℕ} {size w : ℕ} {best : Four ℕ} → w < size → RowsTaken cells size r size before after
    → BestSplits (set_costs after) w best → BestSplits (cells_at cells size r) w best
best_in_table cells r {before} {after} {size} {w} {best} small T B = record {
  each = λ j s.
      best_split_same working_none (set_costs after j) (cells_at cells size r j) w (nth best j) (nth best j) (T.taken w j small s)
      (λ y p ny ne. T.taken y j (omega (arith, part_le y w p)) s) (λ y p ny ne. T.taken (w - y) j (omega arith) s) refl (B.each j s);
}
