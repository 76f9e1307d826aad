-- What the graph of a good sheet has: its arcs lead between its nodes, none from a node to itself, and their weights are in range, so that
-- totals have a limit; its landings are those of the records, and each terminal has one. Its directed subtrees are document 004's.
-- Assumes nothing.
use Rattle.std.specs.Prelude.{ℕ, ◌-◌, ◌*◌, ◌≤◌, ◌<◌, ◌≡◌, refl, ◌≢◌, ◌↔◌, length}
use Rattle.std.proofs.Common.{sym, arith}
use Rattle.std.proofs.Math.Option.{some}
use mathlib.Core.List.{List, [], ◌∷◌, Memᴰ}
use Rattle.limits.specs.Limits.{max_nodes, max_weight, no_cost}
use Rattle.lists.specs.Every.{Every, every_append, every_mem, every_at, every_imp}
use Rattle.lists.specs.Listed.{Distinct}
use Rattle.lists.specs.Sums.{sum_by}
use Rattle.graph.specs.Graph.{Landing, Sound}
use Rattle.graph.specs.Subtrees.{Subtree, total}
use Rattle.graph.specs.LeastTotals.{least_total, Room}
use Rattle.graph.proofs.Theorems.{least_total_limit, subtree_iff_one_path}
use Rattle.graph.proofs.laws.SubtreeParts.{total_weights}
use Rattle.graph.proofs.laws.LeastMeaning.{room_above}
use Rattle.graph.specs.Paths.{Touched, OnePath}
use Rattle.records.specs.Records.{LinkOk, RecordOk}
use Rattle.records.specs.Arcs.{Arc, arc, arcs_of, arcs, arc_at}
use Rattle.records.specs.Landings.{Heard}
use Rattle.records.proofs.laws.Heard.{landing_has, has_landing}
use Rattle.records.specs.declared.record.Record.{Record}
use Rattle.records.specs.declared.record.Record.TheVariants.{OneWay, BothWays, Landing as LandingRecord, Sender}
use Rattle.network.specs.Network.{graph_of}

-- ---- the arcs

-- a leg passes the tests of a link
abbrev ArcOk : ℕ → Arc → Type 0
ArcOk n a = LinkOk n a.start a.end a.weight

-- the way back of a link that passes its tests passes them too
back_ok : {n start end weight : ℕ} → LinkOk n start end weight → LinkOk n end start weight
back_ok ok = record { start_below = ok.end_below; end_below = ok.start_below; apart = λ e. ok.apart (sym e); low = ok.low; high = ok.high }

arcs_of_ok : (n k : ℕ) (x : Record) → RecordOk n k x → Every (ArcOk n) (arcs_of x)
arcs_of_ok n k (OneWay start end weight) ok = (ok, tt)
arcs_of_ok n k (BothWays start end weight) ok = (ok, (back_ok ok, tt))
arcs_of_ok n k (LandingRecord terminal node) ok = tt
arcs_of_ok n k (Sender node) ok = tt

arcs_ok : (n k : ℕ) (records : List Record) → Every (RecordOk n k) records → Every (ArcOk n) (arcs records)
arcs_ok n k [] each = tt
arcs_ok n k (x ∷ records) each = every_append (ArcOk n) (arcs_of x) (arcs records) (arcs_of_ok n k x each.0) (arcs_ok n k records each.1)

module _ (n k : ℕ) (records : List Record) where
  -- every leg of the records passes the tests of a link
  arc_ok : Every (RecordOk n k) records → (e : ℕ) → e < length (arcs records) → ArcOk n (arc_at records e)
  arc_ok each e h = every_at (ArcOk n) (arcs records) (arcs_ok n k records each) e (arc 0 0 0) h

  pub sheet_sound : Every (RecordOk n k) records → Sound (graph_of n k records)
  sheet_sound each = record {
    start_lt = λ e h. (arc_ok each e h).start_below;
    end_lt = λ e h. (arc_ok each e h).end_below;
    weight_pos = λ e h. (arc_ok each e h).low;
  }

  pub sheet_weights : Every (RecordOk n k) records → (e : ℕ) → e < length (arcs records) → (graph_of n k records).weight e ≤ max_weight
  sheet_weights each e h = (arc_ok each e h).high

  pub sheet_no_loop : Every (RecordOk n k) records → (e : ℕ) → e < length (arcs records)
      → (graph_of n k records).start e ≢ (graph_of n k records).end e
  sheet_no_loop each e h = (arc_ok each e h).apart

  -- "Its total is the sum of its legs' prices"
  pub sheet_total : (r : ℕ) (L : List ℕ) → total (graph_of n k records) r L ≡ sum_by (graph_of n k records).weight L
  sheet_total r L = total_weights (graph_of n k records) (λ v. refl) r L

  -- "A finite cell is at most 1,000,000 times (n − 1)"
  pub sheet_limit : Every (RecordOk n k) records → (v w x : ℕ) → least_total (graph_of n k records) v w ≡ some x → x ≤ max_weight * (n - 1)
  sheet_limit each v w x e =
      omega (arith, least_total_limit (graph_of n k records) (sheet_sound each) max_weight 0 (sheet_weights each) (λ u _. omega arith) v w x e)

  -- so "none" is above the total of every directed subtree
  pub sheet_room : n ≤ max_nodes → Every (RecordOk n k) records → Room (graph_of n k records) no_cost
  sheet_room few each = room_above (graph_of n k records) (sheet_sound each) max_weight 0 no_cost (sheet_weights each) (λ u _. omega arith) (omega arith)

  -- document 004's definition, of different legs of a good sheet, which has no loop
  pub sheet_one_path : Every (RecordOk n k) records → (r : ℕ) (L : List ℕ) → r < n → Every (λ e. e < length (arcs records)) L → Distinct L
      → Subtree (graph_of n k records) r L ↔ ((v : ℕ) → v ≢ r → Touched (graph_of n k records) L v → OnePath (graph_of n k records) L r v)
  sheet_one_path each r L on legs distinct =
      subtree_iff_one_path (graph_of n k records) r L on legs distinct
      (every_imp (λ e. e < length (arcs records)) (λ e. (graph_of n k records).start e ≢ (graph_of n k records).end e) (sheet_no_loop each) L legs)

  -- ---- the landings

  -- v is a landing of terminal i exactly where the records say so
  pub landing_record : (i v : ℕ) → Landing (graph_of n k records) i v → Memᴰ (LandingRecord i v) records
  landing_record i v t = landing_has records v i t

  pub record_landing : (i v : ℕ) → Memᴰ (LandingRecord i v) records → Landing (graph_of n k records) i v
  record_landing i v m = has_landing records v i m

  -- each terminal has a landing at a node
  pub sheet_heard : Every (RecordOk n k) records → ((i : ℕ) → i < k → Heard i records)
      → (i : ℕ) → i < k → (v : ℕ) × (v < n) × Landing (graph_of n k records) i v
  sheet_heard each every i l =
      let h = every i l in
      (h.0, (every_mem (RecordOk n k) each h.1).1, record_landing i h.0 h.1)
