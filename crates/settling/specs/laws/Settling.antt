-- What is asked where cells are settled along the arcs of an index, and that it stays while they fall.
-- Assumes nothing.
use Rattle.std.specs.Prelude.{ℕ, List}
use Rattle.lent_tables.specs.SheetTables.{SheetTables}
use Rattle.working_none.specs.laws.Low.{entry}
use Rattle.settling.specs.laws.Arcs.{start_of, end_of, weight_of, end_at, ListLanes}
use Rattle.settling.specs.laws.Lowered.{Lowered, still_low, still_lanes, FirstOpen}
use Rattle.settling.specs.laws.ByIndex.{ArcsByEnd, SomeArcs, same_arcs, OpenByIndex}

pub record SettleAsked (n : ℕ) (t : SheetTables) (list places lanes : List ℕ) : Type 0 where
  pub listed : ListLanes t list (entry places n) lanes
  pub m : ℕ
  pub by_end : ArcsByEnd n m (end_at t) t.starts t.weights list places lanes

module _ {n : ℕ} {t : SheetTables} {list places before : List ℕ} (A : SettleAsked n t list places before) where
  pub still_asked : {after : List ℕ} → Lowered (entry places n) (start_of t list) (end_of t list) (weight_of t list) before after
      → SettleAsked n t list places after
  still_asked L = record {
    listed = still_lanes L A.listed;
    m = A.m;
    by_end = same_arcs L.same_length (still_low L A.listed.low) A.by_end;
  }

  pub some_arcs : SomeArcs n t.starts t.weights list places before
  some_arcs = record { m = A.m; end = end_at t; indexed = A.by_end }

  pub first_of : {r : ℕ} → OpenByIndex n t.starts t.weights list places before r
      → FirstOpen (entry places n) (start_of t list) (end_of t list) (weight_of t list) before r
  first_of O = O.is_first A.m (end_at t) A.by_end
