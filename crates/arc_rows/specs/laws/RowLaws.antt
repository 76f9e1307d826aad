-- The rows of listed arcs: the queue holds nodes, and a row carries every marking.
-- Assumes nothing.
use Rattle.std.specs.Prelude.{ℕ, ◌+◌, ◌≤◌, ◌<◌, ◌≡◌, refl, Bool, List, length, get_or, set, replicate, T}
use Rattle.std.proofs.Common.{sym, ap, subst, arith, length-set, get_or-set_same, get_or-set_other}
use Rattle.std.proofs.Math.Decide.{ℕ_discrete}
use Rattle.std.proofs.lemmas.List.{length-replicate, get_or-replicate}
use Rattle.lists.specs.Listed.{listed}
use Rattle.marking.specs.Links.{link_graph, Within}
use Rattle.marking.specs.Marking.{ArcMarks}
use Rattle.marking.specs.laws.MarkingLaws.{carried_none, carried_then, carried_arc}
use Rattle.arc_rows.specs.Rows.{StartsBelow, AllBelow, RowsReady, Queued, RowMarked}

-- ---- the queue

-- one entry more that is below n
set_below : (n : ℕ) (entries : List ℕ) (i v : ℕ) → v < n → AllBelow n entries → AllBelow n (set entries i v)
set_below n entries i v low all j l = go (ℕ_discrete j i)
  where
    there : j < length entries
    there = omega (arith, l, length-set entries i v)

    go : Dec (j ≡ i) → get_or (set entries i v) j 0 < n
    go (yes e) = let here = get_or-set_same entries i v 0 (omega (arith, there, e)) in
        subst (λ (x : ℕ). get_or (set entries i v) x 0 < n) (sym e) (omega (arith, here, low))
    go (no ne) = omega (arith, get_or-set_other entries i j v 0 ne, all j there)

module _ (v : ℕ) (queue : List ℕ) (tail : ℕ) where
  pub queued_put : tail < length queue → Queued v queue (set queue tail v) (tail + 1)
  queued_put l = record { size = length-set queue tail v; fits = omega (arith, length-set queue tail v); nodes = λ n low all. set_below n queue tail v low all }

  pub queued_full : tail ≤ length queue → Queued v queue queue tail
  queued_full l = record { size = refl; fits = l; nodes = λ n low all. all }

-- zeros alone
pub zeros_below : (n m : ℕ) → 0 < n → AllBelow n (replicate m 0)
zeros_below n m l i on = omega (arith, get_or-replicate {A = ℕ} m i 0 0 (omega (arith, on, length-replicate {A = ℕ} m 0)))

-- ---- the tables

pub within_starts : (n m : ℕ) (L starts ends : List ℕ) → n ≤ m → Within n L starts ends → StartsBelow m L starts
within_starts n m L starts ends l within e t = (within.in_starts e t, omega (arith, l, within.start_lt e t))

-- ---- a row

module _ (L starts ends before : List ℕ) where
  pub row_none : (queue : List ℕ) (tail : ℕ) → tail ≤ length queue → AllBelow (length before) queue
      → RowMarked (link_graph (length before) starts ends) L before before queue tail
  row_none queue tail l all = record { fits = l; nodes = all; carried = carried_none _ L before }

  module _ (within : Within (length before) L starts ends) (e : ℕ) (t : T (listed e L)) where
    -- an arc that marks no node
    pub row_same : (marks after queue queue' : List ℕ) (tail tail' : ℕ) (r : Bool)
        → RowMarked (link_graph (length before) starts ends) L before marks queue tail → ArcMarks (get_or starts e 0) (get_or ends e 0) marks after r
        → queue' ≡ queue → tail' ≡ tail → RowMarked (link_graph (length before) starts ends) L before after queue' tail'
    row_same marks after queue queue' tail tail' r row given same_queue same-tail = record {
      fits = omega (arith, row.fits, ap length same_queue, same-tail);
      nodes = subst (AllBelow (length before)) (sym same_queue) row.nodes;
      carried = carried_arc (length before) L starts ends within e t before marks after r row.carried given;
    }

    -- one that marks a node, which comes into the queue
    pub row_more : (marks after queue longer queue' : List ℕ) (tail more tail' : ℕ) (r : Bool)
        → RowMarked (link_graph (length before) starts ends) L before marks queue tail → ArcMarks (get_or starts e 0) (get_or ends e 0) marks after r
        → Queued (get_or ends e 0) queue longer more → queue' ≡ longer → tail' ≡ more
        → RowMarked (link_graph (length before) starts ends) L before after queue' tail'
    row_more marks after queue longer queue' tail more tail' r row given queued same_queue same-tail = record {
      fits = omega (arith, queued.fits, ap length same_queue, same-tail);
      nodes = subst (AllBelow (length before)) (sym same_queue) (queued.nodes (length before) (within.end_lt e t) row.nodes);
      carried = carried_arc (length before) L starts ends within e t before marks after r row.carried given;
    }

  -- the root comes into the queue first
  pub row_root : (root : ℕ) (queue longer : List ℕ) (tail : ℕ) → root < length before → AllBelow (length before) queue → Queued root queue longer tail
      → RowMarked (link_graph (length before) starts ends) L before before longer tail
  row_root root queue longer tail on all queued = row_none longer tail queued.fits (queued.nodes (length before) on all)

  -- one row after another
  pub row_then : (marks after queue longer : List ℕ) (tail tail' : ℕ) → RowMarked (link_graph (length before) starts ends) L before marks queue tail
      → RowMarked (link_graph (length marks) starts ends) L marks after longer tail'
      → RowMarked (link_graph (length before) starts ends) L before after longer tail'
  row_then marks after queue longer tail tail' row later = record {
    fits = later.fits;
    nodes = subst (λ (n : ℕ). AllBelow n longer) row.carried.size later.nodes;
    carried = carried_then L starts ends before marks after row.carried later.carried;
  }

-- the next row is ready
pub row_again : (L starts ends next before marks queue : List ℕ) (tail : ℕ)
    → RowMarked (link_graph (length before) starts ends) L before marks queue tail → RowsReady L starts ends next (length before)
    → RowsReady L starts ends next (length marks) × AllBelow (length marks) queue × (tail ≤ length queue)
row_again L starts ends next before marks queue tail row ready = (
  subst (RowsReady L starts ends next) (sym row.carried.size) ready,
  subst (λ (n : ℕ). AllBelow n queue) (sym row.carried.size) row.nodes,
  row.fits,
)
