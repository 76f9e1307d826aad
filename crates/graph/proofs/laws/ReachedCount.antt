-- How many nodes a list of arcs reaches from a root: one more than growth keeps arcs of it. So the list is a directed subtree exactly where it
-- reaches one node more than it has arcs.
-- Assumes nothing.
use Rattle.std.specs.Prelude.{ℕ, suc, ◌+◌, ◌≤◌, ◌<◌, ◌≡◌, refl, List, [], ◌∷◌, map, length, T, eqb}
use Rattle.std.proofs.Common.{ap, arith}
use Rattle.lists.specs.Tests.{same_tests, by_eq}
use Rattle.lists.specs.Count.{bit, count}
use Rattle.lists.specs.Listed.{listed, once_listed}
use Rattle.lists.specs.Sums.{length_sum, sum_to, sum_to_same, sum_to_add, sum_to_in}
use Rattle.graph.specs.Graph.{Graph, Sound}
use Rattle.graph.specs.Paths.{is_reached}
use Rattle.graph.specs.Subtrees.{Subtree, held}
use Rattle.graph.specs.Growth.{kept}
use Rattle.graph.proofs.laws.SubtreeParts.{endings, endings_count, arc_of, root_endings, node_endings}
use Rattle.graph.proofs.laws.SubtreeSize.{count_ends}
use Rattle.graph.proofs.laws.Growing.{left_out, kept_parts, kept_subtree, reached_kept, kept_reached, subtree_kept, whole_subtree}
use Rattle.graph.proofs.laws.ReachTest.{reached_path, path_reached}

-- a subtree holds no node twice
held_once : (G : Graph) (r : ℕ) (L : List ℕ) → Subtree G r L → (v : ℕ) → count v (held G r L) ≤ 1
held_once G r L t v = by_eq v r (λ b. bit b + count v (map G.end L) ≤ 1)
    (λ q. omega (arith, ap (λ (x : ℕ). count x (map G.end L)) q, endings_count G r L, root_endings t))
    (λ _. omega (arith, endings_count G v L, node_endings t v))

module _ (G : Graph) (sound : Sound G) (r : ℕ) (L : List ℕ) (on : r < G.nodes) (arcs : (e : ℕ) → T (listed e L) → e < G.arcs) where
  -- a node is reached exactly where it is the root or an arc that is kept ends at it
  reached_once : (v : ℕ) → bit (is_reached G L r v) ≡ bit (eqb v r) + endings G v (kept G r L)
  reached_once v =
      let K : List ℕ = kept G r L in
      let same : is_reached G L r v ≡ listed v (held G r K) =
      same_tests (is_reached G L r v) (listed v (held G r K)) (λ t. reached_kept G r L (reached_path G L r (length L) v t))
      (λ t. path_reached G L r v (kept_reached G r L v t)) in
      omega (arith, ap bit same, once_listed v (held G r K) (held_once G r K (kept_subtree G r L on arcs) v), endings_count G v K)

  pub reached_count : sum_to G.nodes (λ v. bit (is_reached G L r v)) ≡ suc (length (kept G r L))
  reached_count =
      let K : List ℕ = kept G r L in
      omega (
        arith,
        sum_to_same G.nodes (λ v. bit (is_reached G L r v)) (λ v. bit (eqb v r) + endings G v K) (λ v _. reached_once v),
        sum_to_add G.nodes (λ v. bit (eqb v r)) (λ v. endings G v K),
        sum_to_in G.nodes r on,
        count_ends G sound K (arc_of (kept_subtree G r L on arcs)),
      )

  kept_length : length L ≡ length (kept G r L) + length (left_out G r L)
  kept_length = omega (arith, length_sum L, length_sum (kept G r L), length_sum (left_out G r L), kept_parts G r L (λ _. 1))

  -- of a subtree nothing is left out; where nothing is left out, the list is one
  pub subtree_count : Subtree G r L → sum_to G.nodes (λ v. bit (is_reached G L r v)) ≡ suc (length L)
  subtree_count t = omega (arith, reached_count, kept_length, ap length (subtree_kept G r L t))

  pub count_subtree : sum_to G.nodes (λ v. bit (is_reached G L r v)) ≡ suc (length L) → Subtree G r L
  count_subtree q = whole_subtree G r L on arcs (no_entry (left_out G r L) (omega (arith, q, reached_count, kept_length)))
    where
      no_entry : (M : List ℕ) → length M ≡ 0 → M ≡ []
      no_entry [] e = refl
      no_entry (x ∷ M) e = absurd (omega (arith, e))
