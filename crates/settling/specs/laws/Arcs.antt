-- The arcs in lent tables.
-- Assumes nothing.
use Rattle.std.specs.Prelude.{ℕ, ◌+◌, ◌*◌, ◌≤◌, ◌<◌, ◌≡◌, List, length}
use Rattle.std.proofs.Common.{arith}
use Rattle.limits.specs.Limits.{max_nodes, max_arcs, max_weight}
use Rattle.lent_tables.specs.SheetTables.{SheetTables, Long}
use Rattle.working_none.specs.laws.Low.{entry, AllLow}

-- the start, the end and the weight of an arc, as tables hold them
module _ (t : SheetTables) where
  abbrev pub start_at : ℕ → ℕ
  start_at e = entry t.starts e

  abbrev pub end_at : ℕ → ℕ
  end_at e = entry t.ends e

  abbrev pub weight_at : ℕ → ℕ
  weight_at e = entry t.weights e

-- m arcs between n nodes, in tables that are long enough
pub record ArcTables (n m : ℕ) (t : SheetTables) : Type 0 where
  pub few : n ≤ max_nodes
  pub long : Long 0 m t
  pub start_lt : (e : ℕ) → e < m → start_at t e < n
  pub end_lt : (e : ℕ) → e < m → end_at t e < n
  pub weight_le : (e : ℕ) → e < m → weight_at t e ≤ max_weight

-- the start, the end and the weight of the arc at a place of a list
module _ (t : SheetTables) (list : List ℕ) where
  abbrev pub start_of : ℕ → ℕ
  start_of i = start_at t (entry list i)

  abbrev pub end_of : ℕ → ℕ
  end_of i = end_at t (entry list i)

  abbrev pub weight_of : ℕ → ℕ
  weight_of i = weight_at t (entry list i)

-- what is known of arc e: the tables have it, its weight is within the limit, and its nodes have four cells each
pub record ArcKnown (t : SheetTables) (lanes : List ℕ) (e : ℕ) : Type 0 where
  pub starts_long : e < length t.starts
  pub ends_long : e < length t.ends
  pub weights_long : e < length t.weights
  pub start_fits : start_at t e * 4 + 4 ≤ length lanes
  pub end_fits : end_at t e * 4 + 4 ≤ length lanes
  pub start_few : start_at t e < max_nodes
  pub end_few : end_at t e < max_nodes
  pub weight_low : weight_at t e ≤ max_weight

-- so many places of a list have such arcs, and no cell is above "none"
pub record ListLanes (t : SheetTables) (list : List ℕ) (count : ℕ) (lanes : List ℕ) : Type 0 where
  pub few : count ≤ max_arcs
  pub long : count ≤ length list
  pub arc_few : (i : ℕ) → i < count → entry list i < max_arcs
  pub known : (i : ℕ) → i < count → ArcKnown t lanes (entry list i)
  pub low : AllLow lanes

pub arc_known : {n m e : ℕ} {t : SheetTables} {lanes : List ℕ} → ArcTables n m t → n * 4 ≤ length lanes → e < m → ArcKnown t lanes e
arc_known {n} {m} {e} A wide l = record {
  starts_long = omega (arith, A.long.starts);
  ends_long = omega (arith, A.long.ends);
  weights_long = omega (arith, A.long.weights);
  start_fits = omega (arith, A.start_lt e l);
  end_fits = omega (arith, A.end_lt e l);
  start_few = omega (arith, A.start_lt e l, A.few);
  end_few = omega (arith, A.end_lt e l, A.few);
  weight_low = A.weight_le e l;
}

-- cells of the same length
pub still_known : {e : ℕ} {t : SheetTables} {before after : List ℕ} → length after ≡ length before → ArcKnown t before e → ArcKnown t after e
still_known same K = record {
  starts_long = K.starts_long;
  ends_long = K.ends_long;
  weights_long = K.weights_long;
  start_fits = omega (arith, K.start_fits);
  end_fits = omega (arith, K.end_fits);
  start_few = K.start_few;
  end_few = K.end_few;
  weight_low = K.weight_low;
}
