-- Which nodes are the root of a directed subtree that holds a landing of each terminal of a set, and so have a finite cell: exactly those
-- from which directed paths lead to a landing of each.
-- Assumes nothing.
use Rattle.std.specs.Prelude.{ℕ, ◌≤◌, ◌<◌, ◌≡◌, refl, ◌≢◌, ◌↔◌, List}
use Rattle.std.proofs.Common.{sym, subst, ⊎_elim, arith}
use Rattle.std.proofs.Math.Pow.{ones_lt}
use Rattle.lists.specs.Numbers.{number_listed, listed_number}
use Rattle.subset.specs.Sets.{full}
use Rattle.subset.specs.laws.Parts.{full_every, full_ne}
use Rattle.graph.specs.Graph.{Graph, all_arcs}
use Rattle.graph.specs.Paths.{Reaches, ReachesAll}
use Rattle.graph.specs.Subtrees.{Subtree, Covers}
use Rattle.graph.specs.LeastTotals.{least_cell, Least, NoSubtree, IsCostTable, Room}
use Rattle.graph.specs.Growth.{kept}
use Rattle.graph.proofs.laws.Reaching.{path_more}
use Rattle.graph.proofs.laws.Holding.{held_reached}
use Rattle.graph.proofs.laws.SubtreeParts.{arc_of, start_reached}
use Rattle.graph.proofs.laws.Growing.{kept_subtree, reached_kept}
use Rattle.graph.proofs.laws.LeastMeaning.{Right, cell_total, total_right, table_right}

module _ (G : Graph) where
  -- what growth keeps of all arcs is such a subtree
  pub reaches_subtree : (v w : ℕ) → v < G.nodes → Reaches G v w → (L : List ℕ) × Subtree G v L × Covers G v L w
  reaches_subtree v w on h =
      let A : List ℕ = all_arcs G in
      (kept G v A, kept_subtree G v A on (listed_number G.arcs), λ i l t. let (u, path, landing) = h i l t in (u, reached_kept G v A path, landing))

  -- and the arcs of such a subtree lead to the landings
  pub subtree_reaches : (v w : ℕ) (L : List ℕ) → Subtree G v L → Covers G v L w → Reaches G v w
  subtree_reaches v w L t cov i l b =
      let (u, at, landing) = cov i l b in
      (u, path_more G L (all_arcs G) (λ e j. number_listed G.arcs e (arc_of t e j)) (held_reached G v L (start_reached t) u at), landing)

  -- a cell of a set that is not empty is finite exactly where such paths lead from its node
  pub cell_finite : (top : ℕ) → Room G top → (v w : ℕ) → v < G.nodes → w ≢ 0 → (least_cell G top v w < top) ↔ Reaches G v w
  cell_finite top room v w on ne = (there, back)
    where
      cases : Right G top v w (least_cell G top v w)
      cases = subst (Right G top v w) (sym (cell_total G top v w ne)) (total_right G top v w)

      there : least_cell G top v w < top → Reaches G v w
      there l = ⊎_elim (λ (p : Least G v w (least_cell G top v w)). subtree_reaches v w p.tree p.subtree p.covers)
          (λ (p : (least_cell G top v w ≡ top) × NoSubtree G v w). absurd (omega (arith, p.0))) cases

      back : Reaches G v w → least_cell G top v w < top
      back h = ⊎_elim (λ (p : Least G v w (least_cell G top v w)). omega (arith, p.attained, room v p.tree p.subtree))
          (λ (p : (least_cell G top v w ≡ top) × NoSubtree G v w). let (L, t, cov) = reaches_subtree v w on h in absurd (p.1 L t cov)) cases

  -- the full set
  pub full_finite : (top : ℕ) → Room G top → 1 ≤ G.terminals → (v : ℕ) → v < G.nodes → (least_cell G top v (full G.terminals) < top) ↔ ReachesAll G v
  full_finite top room some_terminal v on =
      let w : ℕ = full G.terminals in
      let (there, back) = cell_finite top room v w on (full_ne G.terminals some_terminal) in
      ((λ l i b. there l i b (full_every G.terminals w refl i b)), (λ h. back (λ i b _. h i b)))

  -- the full-set cell of the cost table is `top` exactly where no such paths lead to every terminal
  pub full_none : (top : ℕ) → Room G top → 1 ≤ G.terminals → (c : ℕ → ℕ → ℕ) → IsCostTable G c top → (v : ℕ) → v < G.nodes
      → (c v (full G.terminals) ≡ top) ↔ (ReachesAll G v → ⊥)
  full_none top room some_terminal c table v on = (
    (λ e h. omega (arith, cell, (full_finite top room some_terminal v on).1 h)),
    (λ n. ⊎_elim
        (λ (p : Least G v w (c v w)).
        let finite : least_cell G top v w < top = omega (arith, cell, p.attained, room v p.tree p.subtree) in
        absurd (n ((full_finite top room some_terminal v on).0 finite)))
        (λ (p : (c v w ≡ top) × NoSubtree G v w). p.0)
        (table_right G top c table v w on (full_ne G.terminals some_terminal) (ones_lt G.terminals))),
  )
    where
      w : ℕ
      w = full G.terminals

      cell : c v w ≡ least_cell G top v w
      cell = table v w on (ones_lt G.terminals)
