-- A directed subtree has fewer arcs than there are nodes: at most one ends at each node, and none at the root. So its total has a limit,
-- where weights and charges have one.
-- Assumes nothing.
use Rattle.std.specs.Prelude.{ℕ, zero, suc, ◌+◌, ◌-◌, ◌*◌, ◌≤◌, ◌<◌, ◌≡◌, refl, List, [], ◌∷◌, length, T, eqb}
use Rattle.std.proofs.Common.{arith, mul-le-mul_left}
use Rattle.lists.specs.Count.{bit}
use Rattle.lists.specs.Listed.{listed, listed_head, listed_tail}
use Rattle.lists.specs.Sums.{sum_by, sum_at_most, sum_to, sum_to_zero, sum_to_add, sum_to_in, sum_to_below}
use Rattle.graph.specs.Graph.{Graph, Sound}
use Rattle.graph.specs.Subtrees.{Subtree, total}
use Rattle.graph.proofs.laws.SubtreeParts.{endings, cost, total_by_arc, arc_of, root_endings, node_endings}

-- the arcs counted by the nodes at which they end
pub count_ends : (G : Graph) → Sound G → (L : List ℕ) → ((e : ℕ) → T (listed e L) → e < G.arcs) → sum_to G.nodes (λ v. endings G v L) ≡ length L
count_ends G sound [] arcs = sum_to_zero G.nodes
count_ends G sound (e ∷ L) arcs = omega (
  arith,
  sum_to_add G.nodes (λ v. bit (eqb v (G.end e))) (λ v. endings G v L),
  sum_to_in G.nodes (G.end e) (sound.end_lt e (arcs e (listed_head e L))),
  count_ends G sound L (λ d i. arcs d (listed_tail d e L i)),
)

pub subtree_length : (G : Graph) → Sound G → (r : ℕ) (L : List ℕ) → Subtree G r L → length L < G.nodes
subtree_length G sound r L t = omega (
  arith,
  count_ends G sound L (arc_of t),
  sum_to_below G.nodes r (λ v. endings G v L) t.root (node_endings t) (root_endings t),
)

-- the limit of a total, where no arc weighs more than p, and no node is charged more than q
pub subtree_total : (G : Graph) → Sound G → (p q : ℕ) → ((e : ℕ) → e < G.arcs → G.weight e ≤ p) → ((v : ℕ) → v < G.nodes → G.charge v ≤ q)
    → (r : ℕ) (L : List ℕ) → Subtree G r L → total G r L ≤ p * (G.nodes - 1) + q * G.nodes
subtree_total G sound p q heavy dear r L t = go G.nodes refl (subtree_length G sound r L t)
  where
    arcs : sum_by (cost G) L ≤ (p + q) * length L
    arcs = sum_at_most (cost G) (p + q) L (λ e i. omega (arith, heavy e (arc_of t e i), dear (G.end e) (sound.end_lt e (arc_of t e i))))

    go : (n : ℕ) → G.nodes ≡ n → length L < n → total G r L ≤ p * (n - 1) + q * n
    go zero e l = absurd (omega arith)
    go (suc m) e l =
        let few : (p + q) * length L ≤ (p + q) * m = mul-le-mul_left (p + q) (omega arith) in
        let last : suc m - 1 ≡ m = omega arith in
        rw last (omega (arith, arcs, dear r t.root, total_by_arc G r L))
