-- The index of all arcs, and that of the arcs that are kept of parallel ones: what is asked of the one, and what the other has.
-- Assumes nothing.
use Rattle.std.specs.Prelude.{ℕ, ◌+◌, ◌≤◌, ◌<◌, ◌≡◌, List, length}
use Rattle.std.proofs.Common.{sym, ap, ◌∙◌, subst, arith}
use Rattle.limits.specs.Limits.{max_arcs}
use Rattle.lent_tables.specs.SheetTables.{SheetTables}
use Rattle.graph.specs.HeldGraph.{graph_in, start_in, end_in}
use Rattle.arc_index.specs.laws.Indexed.{Indexed, WholeIndex}
use Rattle.working_none.specs.laws.Low.{entry}
use Rattle.settling.specs.laws.Arcs.{start_at, end_at, weight_at}
use Rattle.settling.specs.laws.Lowered.{AllCovered}
use Rattle.kept_arcs.specs.laws.Groups.{IndexAsked, KeptIndex, in_kept_group}
use Rattle.search.specs.Searchable.{Searchable}

module _ {n k m : ℕ} {t : SheetTables} (S : Searchable n k m t) {by_end places : List ℕ} (W : WholeIndex n m (graph_in n k m t).end by_end places) where
  pub index_asked : IndexAsked n t.starts t.weights by_end places
  index_asked = record {
    few = S.few_nodes;
    places_long = W.index.places_long;
    rises = W.rises;
    place_le = λ v l. omega (arith, W.index.place_le v l, S.few_arcs);
    arc_at_lem = λ v j on f t'.
        let (arc, ends) = W.index.group v j on f t' in record {
          on = omega (arith, W.index.by_end_long, W.index.place_le (v + 1) (omega arith));
          starts_on = omega (arith, S.long.starts);
          weights_on = omega (arith, S.long.weights);
          start_few = omega (arith, start_in n k m t (entry by_end j) arc, S.sound.start_lt (entry by_end j) arc, S.few_nodes);
        };
  }

  module _ {kept begins : List ℕ} (K : KeptIndex t.starts t.weights by_end places n kept begins) where
    kept_arc : (v p : ℕ) → v < n → entry begins v ≤ p → p < entry begins (v + 1) → (entry kept p < m) × ((graph_in n k m t).end (entry kept p) ≡ v)
    kept_arc v p on f l =
        let (j, a, b, e) = K.groups.members v p on f l in
        subst (λ (x : ℕ). (x < m) × ((graph_in n k m t).end x ≡ v)) (sym e) (W.index.group v j on a b)

    pub kept_indexed : max_arcs ≤ length kept → n + 1 ≤ length begins → Indexed n m (graph_in n k m t).end kept begins
    kept_indexed long long' = record {
      by_end_long = omega (arith, S.few_arcs);
      places_long = long';
      place_le = λ v l. omega (arith, K.groups.low v l, W.index.place_le v l);
      first = K.groups.zero;
      last = λ v l. omega (arith, K.groups.below v l, K.groups.here);
      group = kept_arc;
    }

    pub kept_covers : AllCovered m (start_at t) (end_at t) (weight_at t) kept (entry begins n)
    kept_covers = record {
      arc = λ i l. let g = in_kept_group begins K.groups.zero n i l in (kept_arc g.node i g.on_graph g.from g.to).0;
      covered = λ e l.
          let v : ℕ = (graph_in n k m t).end e in
          let on : v < n = S.sound.end_lt e l in
          let (j, a, b, q) = W.found e l in
          let (p, f, t', C) = K.groups.covered v j on a b in
          let (arc, ends) = kept_arc v p on f t' in (
            p,
            omega (arith, K.groups.below (v + 1) (omega arith), K.groups.here),
            C.same ∙ ap (entry t.starts) q,
            sym (end_in n k m t (entry kept p) arc) ∙ ends ∙ end_in n k m t e l,
            omega (arith, C.light, ap (entry t.weights) q),
          );
    }
