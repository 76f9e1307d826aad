-- What is asked of the tables where cells are closed over the arcs: the arcs, their index, the cells and the lanes.
-- Assumes nothing.
use Rattle.std.specs.Prelude.{ℕ, ◌+◌, ◌*◌, ◌≤◌, ◌<◌, ◌≡◌, List, length}
use Rattle.std.proofs.Common.{◌∙◌, subst, arith}
use Rattle.limits.specs.Limits.{max_arcs}
use Rattle.lent_tables.specs.SheetTables.{SheetTables}
use Rattle.arc_index.specs.laws.Indexed.{Indexed}
use Rattle.cost_table.specs.Cells.{cell_in}
use Rattle.cost_table.proofs.laws.Rows.{place_of, place_lt}
use Rattle.lanes.specs.laws.Columns.{ColumnsTaken}
use Rattle.working_none.specs.laws.WorkingNone.{working_none}
use Rattle.working_none.specs.laws.Low.{entry, AllLow}
use Rattle.settling.specs.laws.Arcs.{start_at, end_at, weight_at, ArcTables, ListLanes, arc_known}
use Rattle.settling.specs.laws.Lowered.{Lowered, AllCovered, still_low}
use Rattle.settling.specs.laws.ByIndex.{ArcsByEnd, SomeArcs, same_arcs}
use Rattle.settling.specs.laws.Settling.{SettleAsked}
use Rattle.visits.specs.laws.ByIndex.{LoweredByIndex}

pub record Tables (n m size : ℕ) (t : SheetTables) (by_end places cells lanes : List ℕ) : Type 0 where
  pub arcs : ArcTables n m t
  pub index : Indexed n m (end_at t) by_end places
  pub whole : length cells ≡ n * size
  pub low : AllLow cells
  pub wide : length lanes ≡ n * 4
  pub few_arcs : m ≤ max_arcs
  pub covered : AllCovered m (start_at t) (end_at t) (weight_at t) by_end (entry places n)

-- no cell of a table of n nodes is above "none" exactly where no entry of its list is
pub cells_low : (n size : ℕ) (cells : List ℕ) → length cells ≡ n * size → ((v w : ℕ) → v < n → w < size → cell_in cells size v w ≤ working_none) → AllLow cells
cells_low n size cells whole low i l =
    let (v, w, on, small, e) = place_of n size i (omega arith) in
    subst (λ (x : ℕ). entry cells x ≤ working_none) e (low v w on small)

pub low_cells : (n size : ℕ) (cells : List ℕ) → length cells ≡ n * size → AllLow cells → (v w : ℕ) → v < n → w < size → cell_in cells size v w ≤ working_none
low_cells n size cells whole low v w on small = low (v * size + w) (place_lt v n size w (length cells) on small (omega arith))

-- the lanes after the columns are taken
module _ {n m size : ℕ} {t : SheetTables} {by_end places cells lanes : List ℕ} (T : Tables n m size t by_end places cells lanes) {w : ℕ → ℕ} {taken : List ℕ}
    (small : (j : ℕ) → j < 4 → w j < size) (C : ColumnsTaken size w cells n lanes taken) where
  taken_low : AllLow taken
  taken_low =
      cells_low n 4 taken (C.same_length ∙ T.wide)
      (λ v j on s. omega (arith, C.taken v j on s, low_cells n size cells T.whole T.low v (w j) on (small j s)))

  taken_arcs : ArcsByEnd n m (end_at t) t.starts t.weights by_end places taken
  taken_arcs = record {
    few = T.arcs.few;
    starts_long = T.arcs.long.starts;
    weights_long = T.arcs.long.weights;
    start_lt = T.arcs.start_lt;
    weight_le = T.arcs.weight_le;
    index = T.index;
    wide = omega (arith, T.wide, C.same_length);
    low = taken_low;
  }

  pub taken_some : SomeArcs n t.starts t.weights by_end places taken
  taken_some = record { m = m; end = end_at t; indexed = taken_arcs }

  -- the arcs of the index
  listed : (lanes' : List ℕ) → length lanes' ≡ length taken → AllLow lanes' → ListLanes t by_end (entry places n) lanes'
  listed lanes' same low = record {
    few = omega (arith, T.index.place_le n (omega arith), T.few_arcs);
    long = omega (arith, T.index.place_le n (omega arith), T.index.by_end_long);
    arc_few = λ i l. omega (arith, T.covered.arc i l, T.few_arcs);
    known = λ i l. arc_known T.arcs (omega (arith, T.wide, C.same_length)) (T.covered.arc i l);
    low = low;
  }

  -- and after they are lowered by the index
  pub turned : {lower : List ℕ} → LoweredByIndex n t.starts t.weights by_end places taken lower
      → Lowered m (start_at t) (end_at t) (weight_at t) taken lower
  turned L = L.lowered m (end_at t) taken_arcs

  pub turned_lanes : {lower : List ℕ} → LoweredByIndex n t.starts t.weights by_end places taken lower → SettleAsked n t by_end places lower
  turned_lanes {lower} L = record {
    listed = listed lower (turned L).same_length (still_low (turned L) taken_low);
    m = m;
    by_end = same_arcs (turned L).same_length (still_low (turned L) taken_low) taken_arcs;
  }
