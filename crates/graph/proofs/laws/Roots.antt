-- The root of a plan: at the least totals no subtree whose root may be one, and that holds a landing of each terminal, costs less than the root's
-- cell.
-- Assumes nothing.
use Rattle.std.specs.Prelude.{ℕ, ◌^◌, ◌≤◌, ◌<◌, ◌≡◌, ◌≢◌, List, T}
use Rattle.std.proofs.Common.{⊎_elim, arith}
use Rattle.lists.specs.Cheapest.{LowestCheapest}
use Rattle.graph.specs.Graph.{Graph}
use Rattle.graph.specs.Subtrees.{Subtree, Covers, total}
use Rattle.graph.specs.LeastTotals.{Least, NoSubtree, IsCostTable}
use Rattle.graph.proofs.laws.LeastMeaning.{table_right}

-- no subtree whose root may be one, and that holds a landing of each terminal of w, costs less than the cell of the lowest cheapest node
pub root_lower : (G : Graph) (top : ℕ) (c : ℕ → ℕ → ℕ) → IsCostTable G c top → (w v : ℕ) → w ≢ 0 → w < 2 ^ G.terminals
    → LowestCheapest G.may_root (λ u. c u w) G.nodes v
    → (r : ℕ) (L : List ℕ) → T (G.may_root r) → Subtree G r L → Covers G r L w → c v w ≤ total G r L
root_lower G top c table w v ne small root r L may t cov = ⊎_elim
    (λ (p : Least G r w (c r w)). omega (arith, root.cheapest r t.root may, p.least L t cov))
    (λ (p : (c r w ≡ top) × NoSubtree G r w). absurd (p.1 L t cov)) (table_right G top c table r w t.root ne small)
