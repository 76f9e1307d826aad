-- The graph that the tables hold after loading is the graph of the sheet.
-- Assumes nothing.
use Rattle.std.specs.Prelude.{ℕ, ◌≤◌, ◌<◌, ◌≡◌, Bool, ◌&&◌, List, map, ltb, get_or, take, drop}
use Rattle.std.proofs.Common.{ap, sym, ◌∙◌, arith, lt-ltb, le-ltb, length-take, take_at, get_or-take}
use Rattle.std.proofs.Math.Decide.{dec_lt}
use Rattle.std.proofs.Math.ListN.{length, get_or-map, get_or-eq_default}
use Rattle.std.proofs.lemmas.List.{length-map}
use Rattle.limits.specs.Limits.{max_terminals}
use Rattle.lists.specs.Every.{Every, every_mem}
use Rattle.lists.specs.Over.{over}
use Rattle.landing_entries.specs.Entries.{terminals_in, sender_in}
use Rattle.subset.specs.laws.Parts.{terminals_lt}
use Rattle.records.specs.Arcs.{Arc, arc, arcs, arc_at}
use Rattle.records.specs.Landings.{terminals_at}
use Rattle.records.specs.Senders.{is_sender}
use Rattle.records.specs.Records.{RecordOk}
use Rattle.records.proofs.laws.Heard.{landing_has}
use Rattle.records.specs.declared.record.Record.{Record}
use Rattle.lent_tables.specs.SheetTables.{SheetTables}
use Rattle.record_tables.specs.Loaded.{loaded}
use Rattle.record_tables.specs.laws.Held.{terminals_held, sender_held}
use Rattle.graph.specs.HeldGraph.{graph_in}
use Rattle.network.specs.Network.{graph_of}

-- no station has a landing at a site that is not on the sheet
pub terminals_at_none : (n k : ℕ) (records : List Record) → Every (RecordOk n k) records → (v : ℕ) → n ≤ v → terminals_at records v ≡ 0
terminals_at_none n k records each v h =
    let l = terminals_lt 0 (terminals_at records v) (λ i s. let b = (every_mem (RecordOk n k) each (landing_has records v i s)).1 in omega arith) in
    omega arith

module _ (n k : ℕ) (records : List Record) (t : SheetTables) where
  -- a leg table holds that value of each leg, and 0 past the legs
  column_loaded : (f : Arc → ℕ) (old : List ℕ) (e : ℕ)
      → get_or (take (length (arcs records)) (over (map f (arcs records)) old)) e (f (arc 0 0 0)) ≡ f (arc_at records e)
  column_loaded f old e =
      let new = map f (arcs records) in
      ap (λ (l : List ℕ). get_or l e (f (arc 0 0 0))) (take_at new (drop (length new) old) (length (arcs records)) (length-map (arcs records) f))
      ∙ get_or-map f (arcs records) e (arc 0 0 0)

  -- the landing table holds each site's set of stations, and the empty set past the sites
  landings_loaded : k ≤ max_terminals → Every (RecordOk n k) records → (v : ℕ)
      → terminals_in (get_or (take n (loaded n records t).landings) v 0) ≡ terminals_at records v
  landings_loaded b each v = go (dec_lt v n)
    where
      sets : List ℕ
      sets = (loaded n records t).landings

      go : Dec (v < n) → terminals_in (get_or (take n sets) v 0) ≡ terminals_at records v
      go (yes h) = ap terminals_in (get_or-take n sets v 0 h) ∙ terminals_held n records t k b each v h
      go (no h) =
          ap terminals_in (get_or-eq_default (take n sets) 0 (omega (arith, length-take n sets))) ∙ sym (terminals_at_none n k records each v (omega arith))

  -- and whether each site is a sender; past the sites there is none
  senders_loaded : k ≤ max_terminals → Every (RecordOk n k) records → (v : ℕ)
      → sender_in (get_or (take n (loaded n records t).landings) v 0) ≡ (ltb v n && is_sender records v)
  senders_loaded b each v = go (dec_lt v n)
    where
      entries : List ℕ
      entries = (loaded n records t).landings

      go : Dec (v < n) → sender_in (get_or (take n entries) v 0) ≡ (ltb v n && is_sender records v)
      go (yes h) =
          ap sender_in (get_or-take n entries v 0 h) ∙ sender_held n records t k b each v h
          ∙ ap (λ (x : Bool). x && is_sender records v) (sym (lt-ltb v n h))
      go (no h) =
          ap sender_in (get_or-eq_default (take n entries) 0 (omega (arith, length-take n entries)))
          ∙ ap (λ (x : Bool). x && is_sender records v) (sym (le-ltb v n (omega arith)))

  -- equal values at each number are equal functions, and graphs with equal parts are equal
  pub loaded_graph : k ≤ max_terminals → Every (RecordOk n k) records → graph_in n k (length (arcs records)) (loaded n records t) ≡ graph_of n k records
  unfolding loaded
  loaded_graph b each = λ i. record {
    nodes = n;
    terminals = k;
    arcs = length (arcs records);
    start = λ e. column_loaded (λ a. a.start) t.starts e i;
    end = λ e. column_loaded (λ a. a.end) t.ends e i;
    weight = λ e. column_loaded (λ a. a.weight) t.weights e i;
    landings = λ v. landings_loaded b each v i;
    charge = λ v. 0;
    may_root = λ v. senders_loaded b each v i;
  }
