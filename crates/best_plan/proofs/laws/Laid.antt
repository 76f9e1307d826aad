-- The layout by the cells of the least totals is the stated rule's, whatever the nodes are charged and whichever may be a root: what its tests
-- say in the words of the rule, that the root is the rule's, and that the arcs are those that the rule adds.
-- Assumes nothing.
use Rattle.std.specs.Prelude.{ℕ, zero, suc, ◌+◌, ◌-◌, ◌^◌, ◌≤◌, ◌<◌, ◌≡◌, refl, ◌≢◌, ◌⊎◌, Bool, true, false, T}
use Rattle.std.proofs.Common.{sym, ◌∙◌, subst, inl, inr, arith}
use Rattle.std.proofs.Math.Option.{Option, none, some, get_or}
use Rattle.std.proofs.Math.Pow.{ones_lt}
use Rattle.limits.specs.Limits.{no_cost}
use Rattle.lists.specs.Find.{first}
use Rattle.lists.proofs.First.{first_says}
use Rattle.lists.specs.Tests.{true_fact, false_not_fact, not_both}
use Rattle.subset.specs.Sets.{single, full}
use Rattle.subset.specs.laws.Parts.{part_le, full_ne}
use Rattle.graph.specs.Graph.{Graph, Sound, Landing}
use Rattle.graph.specs.LeastTotals.{least_total, least_cell, Least, IsLeastTotal, IsCostTable, Room}
use Rattle.graph.specs.Layout.{is_done, fits, splits, layout, root_of}
use Rattle.graph.proofs.Theorems.{least_total_is_least, one_least, rule_nothing, rule_arc, rule_split, step_applies, splitting_leads, root_rule}
use Rattle.graph.proofs.laws.LeastMeaning.{cell_total}
use Rattle.graph.proofs.laws.LayoutRule.{fits_facts, facts_fit, splits_facts, facts_split, done_facts, facts_done}
use Rattle.mission.specs.Rule.{Costs, Lowest, Nothing, ArcFits, PartSplits, Added, nothing, follow, split, ByRule}
use Rattle.mission.proofs.laws.Roots.{lowest_by}
use Rattle.best_plan.specs.Plan.{full_cell}

-- ---- finite cells

module _ (G : Graph) (top v w : ℕ) (filled : w ≢ 0) where
  -- the cost of a node and a set that is not empty is its cell
  pub costs_cell : (x : ℕ) → Costs G v w x → least_cell G top v w ≡ x
  costs_cell x l = cell_total G top v w filled ∙ go (least_total G v w) (least_total_is_least G v w)
    where
      go : (o : Option ℕ) → IsLeastTotal G v w o → get_or o top ≡ x
      go none says = absurd (says l.tree l.subtree l.covers)
      go (some y) says = one_least G v w y x says l

  -- it is finite
  pub costs_finite : Room G top → (x : ℕ) → Costs G v w x → x < top
  costs_finite room x l = omega (arith, l.attained, room v l.tree l.subtree)

  -- and a finite cell is the cost
  pub finite_costs : least_cell G top v w < top → Costs G v w (least_cell G top v w)
  finite_costs finite = go (least_total G v w) (least_total_is_least G v w) (cell_total G top v w filled)
    where
      go : (o : Option ℕ) → IsLeastTotal G v w o → least_cell G top v w ≡ get_or o top → Costs G v w (least_cell G top v w)
      go none says e = absurd (omega arith)
      go (some x) says e = subst (Least G v w) (sym e) says

-- ---- the rule

-- what the graph of a good sheet has, as far as the rule asks for it
pub record Plannable (G : Graph) : Type 0 where
  pub sound : Sound G
  pub room : Room G no_cost
  pub some_terminal : 1 ≤ G.terminals

-- the cells of the least totals are the cost table
pub least_table : (G : Graph) → IsCostTable G (least_cell G no_cost) no_cost
least_table G v w on small = refl

module _ (G : Graph) (g : Plannable G) where
  abbrev cells : ℕ → ℕ → ℕ
  cells = least_cell G no_cost

  -- nothing is added
  done_nothing : (v w : ℕ) → T (is_done G v w) → Nothing G v w
  done_nothing v w t = go (done_facts G v w t)
    where
      go : (w ≡ 0) ⊎ ((i : ℕ) × (i < G.terminals) × (w ≡ single i) × Landing G i v) → Nothing G v w
      go (inl e) = inl e
      go (inr (i, on, alone, landing)) = inr (record { terminal = i; on_graph = on; alone = alone; landing = landing })

  nothing_done : (v w : ℕ) → Nothing G v w → T (is_done G v w)
  nothing_done v w (inl e) = facts_done G v w (inl e)
  nothing_done v w (inr l) = facts_done G v w (inr (l.terminal, l.on_graph, l.alone, l.landing))

  module _ (v w : ℕ) (filled : w ≢ 0) where
    -- an arc fits
    arc_fits : (e : ℕ) → ArcFits G v w e → T (fits G cells no_cost v w e)
    arc_fits e a =
        let end = costs_cell G no_cost (G.end e) w filled a.cost a.at_end in
        let finite = costs_finite G no_cost (G.end e) w filled g.room a.cost a.at_end in
        let here = costs_cell G no_cost v w filled (G.weight e + G.charge v + a.cost) a.makes in
        facts_fit G cells no_cost v w e (a.from, (omega arith, omega arith))

    -- a part splits the set
    part_splits : (y : ℕ) → PartSplits G v w y → T (splits G cells v w y)
    part_splits y p =
        let below = part_le y w p.within in
        let differ = p.not_all in
        let rest : w - y ≢ 0 = λ e. differ (omega arith) in
        let of_part = costs_cell G no_cost v y p.some_terminal p.cost p.of_part in
        let of_rest = costs_cell G no_cost v (w - y) rest p.rest_cost p.of_rest in
        let here = costs_cell G no_cost v w filled p.whole p.makes in
        facts_split G cells v w y (p.some_terminal, (p.within, omega (arith, p.adds_up)))

    no_arc : first (fits G cells no_cost v w) G.arcs ≡ none → (e : ℕ) → ArcFits G v w e → ⊥
    no_arc q e a = not_both (fits G cells no_cost v w e) (arc_fits e a) (first_says (fits G cells no_cost v w) G.arcs none q e a.on_graph)

    module _ (finite : cells v w < no_cost) where
      lowest_arc : (e : ℕ) → first (fits G cells no_cost v w) G.arcs ≡ some e → Lowest (ArcFits G v w) e
      lowest_arc e q =
          let (on, passes, before) = first_says (fits G cells no_cost v w) G.arcs (some e) q in
          let (starts, (end-finite, makes)) = fits_facts G cells no_cost v w e passes in
          record {
            holds =
                record {
                  on_graph = on;
                  from = starts;
                  cost = cells (G.end e) w;
                  at_end = finite_costs G no_cost (G.end e) w filled end-finite;
                  makes = subst (Costs G v w) (sym makes) (finite_costs G no_cost v w filled finite);
                };
            lowest = λ d below a. not_both (fits G cells no_cost v w d) (arc_fits d a) (before d below);
          }

      lowest_part : v < G.nodes → w < 2 ^ G.terminals → (y : ℕ) → first (splits G cells v w) w ≡ some y → Lowest (PartSplits G v w) y
      lowest_part on small y q =
          let (below, passes, before) = first_says (splits G cells v w) w (some y) q in
          let (some_terminal, (within, adds_up)) = splits_facts G cells v w y passes in
          let (_, _, Part-low, rest_low) = splitting_leads G g.sound no_cost g.room cells (least_table G) v w y on small q in
          record {
            holds =
                record {
                  within = within;
                  some_terminal = some_terminal;
                  not_all = λ e. omega arith;
                  cost = cells v y;
                  rest_cost = cells v (w - y);
                  whole = cells v w;
                  of_part = finite_costs G no_cost v y some_terminal (omega arith);
                  of_rest = finite_costs G no_cost v (w - y) (λ e. omega arith) (omega arith);
                  makes = finite_costs G no_cost v w filled finite;
                  adds_up = adds_up;
                };
            lowest = λ d less p. not_both (splits G cells v w d) (part_splits d p) (before d less);
          }

  -- the arcs that are laid out are those that the rule adds: by induction on the cell and the set
  added_in : (b v w : ℕ) → cells v w + w < b → v < G.nodes → w ≢ 0 → w < 2 ^ G.terminals → cells v w < no_cost
      → Added G v w (layout G cells no_cost v w)
  added_in zero v w l on filled small finite = absurd (omega arith)
  added_in (suc b) v w l on filled small finite =
      go (is_done G v w) refl (first (fits G cells no_cost v w) G.arcs) refl (first (splits G cells v w) w) refl
      (λ u y less node more limit f. added_in b u y less node more limit f)
    where
      go : (t : Bool) → is_done G v w ≡ t → (o : Option ℕ) → first (fits G cells no_cost v w) G.arcs ≡ o
          → (p : Option ℕ) → first (splits G cells v w) w ≡ p
          → ((u y : ℕ) → cells u y + y < b → u < G.nodes → y ≢ 0 → y < 2 ^ G.terminals → cells u y < no_cost → Added G u y (layout G cells no_cost u y))
          → Added G v w (layout G cells no_cost v w)
      go true t o q p r below =
          subst (Added G v w) (sym (rule_nothing G g.sound cells no_cost v w (true_fact t))) (nothing (done_nothing v w (true_fact t)))
      go false t (some e) q p r below =
          let more : Nothing G v w → ⊥ = λ n. not_both (is_done G v w) (nothing_done v w n) (false_not_fact t) in
          let lowest = lowest_arc v w filled finite e q in
          let arc : ArcFits G v w e = lowest.holds in
          let end = costs_cell G no_cost (G.end e) w filled arc.cost arc.at_end in
          let here = costs_cell G no_cost v w filled (G.weight e + G.charge v + arc.cost) arc.makes in
          let heavy = g.sound.weight_pos e arc.on_graph in
          subst (Added G v w) (sym (rule_arc G g.sound cells no_cost v w e (false_not_fact t) q))
          (follow e more lowest (below (G.end e) w (omega arith) (g.sound.end_lt e arc.on_graph) filled small (omega arith)))
      go false t none q (some y) r below =
          let more : Nothing G v w → ⊥ = λ n. not_both (is_done G v w) (nothing_done v w n) (false_not_fact t) in
          let lowest = lowest_part v w filled finite on small y r in
          let some_terminal = lowest.holds.some_terminal in
          let (less, _, Part-low, rest_low) = splitting_leads G g.sound no_cost g.room cells (least_table G) v w y on small r in
          let rest : w - y ≢ 0 = λ e. omega arith in
          subst (Added G v w) (sym (rule_split G g.sound cells no_cost v w y (false_not_fact t) q r))
          (split y more (no_arc v w filled q) lowest
          (below v y (omega arith) on some_terminal (omega arith) (omega arith)) (below v (w - y) (omega arith) on rest (omega arith) (omega arith)))
      go false t none q none r below =
          absurd (step_applies G g.sound no_cost g.room cells (least_table G) v w on filled small finite (false_not_fact t) q r)

  -- the plan from the root that the rule names, where its cell is finite
  pub laid_by_rule : (root : ℕ) → root_of G cells ≡ some root → full_cell G root < no_cost
      → ByRule G root (full_cell G root) (layout G cells no_cost root (full G.terminals))
  laid_by_rule root q finite =
      let r = root_rule G cells root q in
      let w : ℕ = full G.terminals in
      let filled : w ≢ 0 = full_ne G.terminals g.some_terminal in
      record {
        root_is =
            lowest_by G w (full_cell G) (λ u y on costs. costs_cell G no_cost u w filled y costs) root r (finite_costs G no_cost root w filled finite);
        laid = added_in (suc (full_cell G root + w)) root w (omega arith) r.below filled (ones_lt G.terminals) finite;
      }
