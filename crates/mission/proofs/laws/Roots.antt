-- The lowest cheapest root of a set of terminals: there is only one, no subtree whose root may be one costs less, and it is found by any numbers that
-- are the costs.
-- Assumes nothing.
use Rattle.std.specs.Prelude.{ℕ, ◌≤◌, ◌<◌, ◌≡◌, List, T}
use Rattle.std.proofs.Common.{sym, subst, arith}
use Rattle.std.proofs.Math.Option.{Option, none, some}
use Rattle.std.proofs.Math.Decide.{ℕ_discrete, dec_lt}
use Rattle.lists.specs.Cheapest.{LowestCheapest}
use Rattle.graph.specs.Graph.{Graph}
use Rattle.graph.specs.Subtrees.{Subtree, Covers, total}
use Rattle.graph.specs.LeastTotals.{least_total, IsLeastTotal}
use Rattle.graph.proofs.Theorems.{least_total_is_least}
use Rattle.mission.specs.Rule.{Costs, Lowest, LeastRoot}

-- the lowest number with a property is one number
pub lowest_one : (P : ℕ → Type 0) (x y : ℕ) → Lowest P x → Lowest P y → x ≡ y
lowest_one P x y a b = go (dec_lt x y) (dec_lt y x)
  where
    go : Dec (x < y) → Dec (y < x) → x ≡ y
    go (yes l) _ = absurd (b.lowest x l a.holds)
    go (no _) (yes l) = absurd (a.lowest y l b.holds)
    go (no p) (no q) = omega arith

module _ (G : Graph) (w : ℕ) where
  -- one root, and one cost
  pub one_root : (v u x y : ℕ) → Lowest (LeastRoot G w x) v → Lowest (LeastRoot G w y) u → (v ≡ u) × (x ≡ y)
  one_root v u x y a b =
      let here = a.holds in
      let there = b.holds in
      let costs : x ≡ y =
      omega (arith, here.least u y there.node there.may_root_lem there.costs, there.least v x here.node here.may_root_lem here.costs) in
      (lowest_one (LeastRoot G w y) v u (subst (λ (z : ℕ). Lowest (LeastRoot G w z) v) costs a) b, costs)

  -- by trees: no subtree whose root may be one, and that holds a landing of each terminal of w, costs less, and from a lower root each costs more
  pub none_cheaper : (v x : ℕ) → Lowest (LeastRoot G w x) v → (u : ℕ) (L : List ℕ) → T (G.may_root u) → Subtree G u L → Covers G u L w
      → (x ≤ total G u L) × (u < v → x < total G u L)
  none_cheaper v x low u L may t cov = go (least_total G u w) (least_total_is_least G u w)
    where
      go : (o : Option ℕ) → IsLeastTotal G u w o → (x ≤ total G u L) × (u < v → x < total G u L)
      go none says = absurd (says L t cov)
      go (some y) says = (omega (arith, le, says.least L t cov), λ less. more less (ℕ_discrete x y))
        where
          le : x ≤ y
          le = low.holds.least u y t.root may says

          more : u < v → Dec (x ≡ y) → x < total G u L
          more less (yes e) =
              absurd (low.lowest u less
              (record { node = t.root; may_root_lem = may; costs = subst (Costs G u w) (sym e) says; least = low.holds.least }))
          more less (no different) = omega (arith, le, says.least L t cov)

  -- where f is the cost of each node that has one, the lowest node that may be a root and at which f is least, if it has a cost
  pub lowest_by : (f : ℕ → ℕ) → ((u x : ℕ) → u < G.nodes → Costs G u w x → f u ≡ x)
      → (v : ℕ) → LowestCheapest G.may_root f G.nodes v → Costs G v w (f v) → Lowest (LeastRoot G w (f v)) v
  lowest_by f are v r costs = record {
    holds =
        record {
          node = r.below;
          may_root_lem = r.passes;
          costs = costs;
          least = λ u y on may there. omega (arith, r.cheapest u on may, are u y on there);
        };
    lowest = λ u less also. omega (arith, r.lowest u less also.may_root_lem, are u (f v) also.node also.costs);
  }
