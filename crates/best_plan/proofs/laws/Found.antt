-- The plan of a graph, whatever the nodes are charged and whichever may be a root: where there is one, what it is, and that no directed subtree
-- whose root may be one, and that holds a landing of every terminal, costs less; and of a good sheet, that its numbers fit the plan file.
-- Assumes nothing.
use Rattle.std.specs.Prelude.{ℕ, ◌-◌, ◌^◌, ◌≤◌, ◌<◌, ◌≡◌, ◌≢◌, ◌↔◌, Bool, not, ◌||◌, List, T, eqb, ltb, length}
use Rattle.std.proofs.Math.Path.{refl, subst}
use Rattle.std.proofs.Common.{sym, ⊎_elim, arith, eqb→eq, ltb→lt, nltb→le}
use Rattle.std.proofs.Math.Bool.{true, false}
use Rattle.std.proofs.Math.Option.{Option, none, some}
use Rattle.std.proofs.Math.Pow.{ones_lt}
use Rattle.limits.specs.Limits.{no_cost}
use Rattle.lists.specs.Every.{every_imp}
use Rattle.lists.specs.Find.{all_at, all_of_lem}
use Rattle.lists.specs.Tests.{by_fact, eq_fact, fact_true, true_fact, false_not_fact, not_both, or_cases}
use Rattle.subset.specs.Sets.{full}
use Rattle.subset.specs.laws.Parts.{full_ne}
use Rattle.graph.specs.Graph.{Graph}
use Rattle.graph.specs.Paths.{ReachesAll}
use Rattle.graph.specs.LeastTotals.{least_cell}
use Rattle.graph.specs.Layout.{root_of}
use Rattle.graph.proofs.Theorems.{layout_is_least, covers_all, full_finite_iff_reaches, root_rule, root_none, root_least}
use Rattle.graph.proofs.laws.CostTable.{cost_table_capped}
use Rattle.records.specs.Arcs.{arcs}
use Rattle.number_fields.specs.Fields.{Bytes}
use Rattle.sheet.specs.laws.Good.{IsSheet, good_is_sheet}
use Rattle.sheet.specs.Verdict.{good, verdict}
use Rattle.records.specs.declared.record.Record.{Record}
use Rattle.network.specs.Network.{graph_of}
use Rattle.network.proofs.laws.OfSheets.{sheet_sound, sheet_room}
use Rattle.planfile.specs.Format.{file_bytes, encoding}
use Rattle.planfile.specs.laws.FormatLaws.{Fits}
use Rattle.planfile.proofs.laws.FormatLaws.{fits_encoding}
use Rattle.mission.specs.Rule.{ByRule}
use Rattle.mission.specs.PointTwo.{IsPlan}
use Rattle.mission.specs.PointThree.{NoneCheaper, SomeReachesAll}
use Rattle.best_plan.specs.Plan.{full_cell, Plan, plan_from, all_none, plan_at, plan_unless, plan_of}
use Rattle.best_plan.proofs.laws.Laid.{Plannable, least_table, costs_cell, costs_finite, laid_by_rule}

-- what the plan of a graph is
pub record PlanFound (G : Graph) (p : Plan) : Type 0 where
  pub is_plan : IsPlan G p.root p.cost p.arcs
  pub by_rule : ByRule G p.root p.cost p.arcs
  pub finite : p.cost < no_cost
  pub few : length p.arcs ≤ G.nodes - 1
  pub least : NoneCheaper G p.cost

-- the test for 12 passes exactly where each full-set cell of a node that may be a root is "none"
module _ (G : Graph) where
  abbrev none_at : ℕ → Bool
  none_at v = not (G.may_root v) || eqb (full_cell G v) no_cost

  pub all_none_at : all_none G ≡ true → (v : ℕ) → v < G.nodes → T (G.may_root v) → full_cell G v ≡ no_cost
  all_none_at all v on may =
      ⊎_elim (λ (t : T (not (G.may_root v))). absurd (not_both (G.may_root v) may t))
      (λ (t : T (eqb (full_cell G v) no_cost)). eqb→eq (full_cell G v) no_cost t)
      (or_cases (not (G.may_root v)) (eqb (full_cell G v) no_cost) (all_at none_at G.nodes (true_fact all) v on))

  pub all_none_of : ((v : ℕ) → v < G.nodes → T (G.may_root v) → full_cell G v ≡ no_cost) → all_none G ≡ true
  all_none_of each =
      fact_true (all_of_lem none_at G.nodes (λ v on.
      by_fact (G.may_root v) (λ b. (T b → full_cell G v ≡ no_cost) → T (not b || eqb (full_cell G v) no_cost))
      (λ _ is. eq_fact (is tt)) (λ _ _. tt) (each v on)))

module _ (G : Graph) (g : Plannable G) where
  abbrev w : ℕ
  w = full G.terminals

  filled : w ≢ 0
  filled = full_ne G.terminals g.some_terminal

  -- a full-set cell is "none" or below it
  pub full_capped : (v : ℕ) → v < G.nodes → full_cell G v ≤ no_cost
  full_capped v on = cost_table_capped G g.sound (least_cell G no_cost) no_cost g.room (least_table G) v w on (ones_lt G.terminals)

  -- a node's full-set cell is finite exactly where it reaches all
  finite_iff : (v : ℕ) → v < G.nodes → (full_cell G v < no_cost) ↔ ReachesAll G v
  finite_iff v on = full_finite_iff_reaches G no_cost g.room g.some_terminal v on

  -- where every full-set cell of a node that may be a root is "none", no such node reaches all
  none_reaches : all_none G ≡ true → SomeReachesAll G → ⊥
  none_reaches all (v, on, may, reaches) =
      let (_, back) = finite_iff v on in
      omega (arith, back reaches, all_none_at G all v on may)

  -- where not, some node may be a root, and the root's cell is finite
  not_every_none : all_none G ≡ false → ((v : ℕ) → v < G.nodes → T (G.may_root v) → full_cell G v ≡ no_cost) → ⊥
  not_every_none some_finite each = not_both (all_none G) (true_fact (all_none_of G each)) (false_not_fact some_finite)

  some_root : all_none G ≡ false → root_of G (least_cell G no_cost) ≡ none → ⊥
  some_root some_finite q =
      not_every_none some_finite (λ v on may. absurd (not_both (G.may_root v) may (root_none G (least_cell G no_cost) q v on)))

  root_finite : all_none G ≡ false → (root : ℕ) → root_of G (least_cell G no_cost) ≡ some root → full_cell G root < no_cost
  root_finite some_finite root q =
      let r = root_rule G (least_cell G no_cost) root q in
      by_fact (ltb (full_cell G root) no_cost) (λ _. full_cell G root < no_cost) (λ t. ltb→lt (full_cell G root) no_cost t)
      (λ t.
      let high = nltb→le (full_cell G root) no_cost t in
      absurd (not_every_none some_finite (λ v on may. omega (arith, full_capped v on, r.cheapest v on may))))

  -- the plan from the root
  from_root : (root : ℕ) → root_of G (least_cell G no_cost) ≡ some root → full_cell G root < no_cost → PlanFound G (plan_from G root)
  from_root root q finite =
      let r = root_rule G (least_cell G no_cost) root q in
      let laid = layout_is_least G g.sound no_cost g.room (least_cell G no_cost) (least_table G) root w r.below filled (ones_lt G.terminals) finite in
      let (all, _) = covers_all G root (plan_from G root).arcs in
      record {
        is_plan = record { may_root_lem = r.passes; subtree = laid.subtree; covers = all laid.covers; true_total = sym laid.cell };
        by_rule = laid_by_rule G g root q finite;
        finite = finite;
        few = laid.few;
        least = λ u L may tree covers.
            let (_, set) = covers_all G u L in
            root_least G (least_cell G no_cost) no_cost g.some_terminal (least_table G) root q u L may tree (set covers);
      }

  -- what the definition gives: nothing, where no node that may be a root reaches all; or the plan, where one does
  abbrev Outcome : Option Plan → Type 0
  Outcome none = SomeReachesAll G → ⊥
  Outcome (some p) = PlanFound G p × SomeReachesAll G

  outcome : Outcome (plan_of G)
  unfolding plan_of
  outcome = go (all_none G) refl (root_of G (least_cell G no_cost)) refl
    where
      go : (b : Bool) → all_none G ≡ b → (o : Option ℕ) → root_of G (least_cell G no_cost) ≡ o → Outcome (plan_unless b G)
      go true h o q = none_reaches h
      go false h none q = absurd (some_root h q)
      go false h (some root) q =
          let finite = root_finite h root q in
          let r = root_rule G (least_cell G no_cost) root q in
          let (there, _) = finite_iff root r.below in
          subst (λ (o : Option ℕ). Outcome (plan_at G o)) (sym q) (from_root root q finite, (root, r.below, r.passes, there finite))

  -- there is no plan exactly where no node that may be a root reaches all
  pub none_found : plan_of G ≡ none → SomeReachesAll G → ⊥
  none_found e = subst Outcome e outcome

  pub found_reaches : (p : Plan) → plan_of G ≡ some p → SomeReachesAll G
  found_reaches p e = (subst Outcome e outcome).1

  -- the plan
  pub plan_found : (p : Plan) → plan_of G ≡ some p → PlanFound G p
  plan_found p e = (subst Outcome e outcome).0

  -- a node from which the rule lays out a plan reaches all
  pub rule_reaches : (root cost : ℕ) (L : List ℕ) → ByRule G root cost L → SomeReachesAll G
  rule_reaches root cost L r =
      let least = r.root_is.holds in
      let (there, _) = finite_iff root least.node in
      let finite : full_cell G root < no_cost =
      omega (arith, costs_cell G no_cost root w filled cost least.costs, costs_finite G no_cost root w filled g.room cost least.costs) in
      (root, least.node, least.may_root_lem, there finite)

-- ---- of a good sheet

module _ (s : List ℕ) (bytes : Bytes s) (n k : ℕ) (records : List Record) (e : verdict s ≡ good n k records) where
  sheet : IsSheet s n k records
  sheet = good_is_sheet s bytes n k records e

  pub sheet_plannable : Plannable (graph_of n k records)
  sheet_plannable = record {
    sound = sheet_sound n k records sheet.each;
    room = sheet_room n k records sheet.nodes.1 sheet.each;
    some_terminal = sheet.terminals.0;
  }

  module _ (p : Plan) (q : plan_of (graph_of n k records) ≡ some p) where
    pub sheet_found : PlanFound (graph_of n k records) p
    sheet_found = plan_found (graph_of n k records) sheet_plannable p q

    -- each number fits its bytes, so the plan has a file
    plan_fits : Fits p.root p.cost p.arcs
    plan_fits =
        let tree = sheet_found.is_plan.subtree in
        let small = sheet.nodes.1 in
        record {
          root_fits = omega (arith, tree.root);
          total_fits = omega (arith, sheet_found.finite);
          count_fits = omega (arith, sheet_found.few);
          arcs_fit = every_imp (λ e. e < length (arcs records)) (λ e. e < 2 ^ 16) (λ e on. omega (arith, sheet.few)) p.arcs tree.on_graph;
        }

    pub plan_encoded : encoding p.root p.cost p.arcs ≡ some (file_bytes p.root p.cost p.arcs)
    plan_encoded = fits_encoding p.root p.cost p.arcs plan_fits
