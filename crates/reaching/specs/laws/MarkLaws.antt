-- What the marks say: 1 for each node to which a directed path of listed arcs leads from the root. They depend on the starts and ends of the
-- listed arcs alone.
-- Assumes nothing.
use Rattle.std.specs.Prelude.{ℕ, ◌<◌, ◌≡◌, List, map, T, length, get_or}
use Rattle.std.proofs.Common.{sym, ap, ◌∙◌, arith}
use Rattle.lists.specs.Count.{bit, bit_passed}
use Rattle.lists.specs.Listed.{listed}
use Rattle.lists.specs.Numbers.{numbers, length_values, get_d_values, same_values}
use Rattle.lists.specs.Tests.{same_tests, by_fact}
use Rattle.graph.specs.Graph.{Graph}
use Rattle.graph.specs.Paths.{DirectedPath, is_reached}
use Rattle.graph.proofs.laws.Reaching.{path_agrees}
use Rattle.graph.proofs.laws.ReachTest.{reached_path, path_reached}
use Rattle.reaching.specs.Marks.{marks_of}

-- there is one for each node
pub marks_size : (G : Graph) (L : List ℕ) (r : ℕ) → length (marks_of G L r) ≡ G.nodes
marks_size G L r = length_values (λ v. bit (is_reached G L r v)) 0 G.nodes

module _ (G : Graph) (L : List ℕ) (r v : ℕ) (on : v < G.nodes) where
  -- the mark of a node
  pub mark_at_lem : get_or (marks_of G L r) v 0 ≡ bit (is_reached G L r v)
  mark_at_lem = get_d_values (λ v. bit (is_reached G L r v)) 0 G.nodes v 0 on ∙ ap (λ (u : ℕ). bit (is_reached G L r u)) (omega arith)

  pub marked_path : get_or (marks_of G L r) v 0 ≡ 1 → DirectedPath G L r v
  marked_path m = reached_path G L r (length L) v
      (by_fact (is_reached G L r v) (λ b. bit b ≡ 1 → T b) (λ _ _. tt) (λ _ e. absurd (omega (arith, e))) (sym mark_at_lem ∙ m))

  pub path_marked : DirectedPath G L r v → get_or (marks_of G L r) v 0 ≡ 1
  path_marked p = mark_at_lem ∙ bit_passed (is_reached G L r v) (path_reached G L r v p)

-- two graphs with as many nodes, in which the listed arcs have the same starts and ends, have the same marks
pub marks_agree : (G F : Graph) (L : List ℕ) (r : ℕ) → G.nodes ≡ F.nodes
    → ((e : ℕ) → T (listed e L) → (G.start e ≡ F.start e) × (G.end e ≡ F.end e)) → marks_of G L r ≡ marks_of F L r
marks_agree G F L r size same =
    same_values (λ v. bit (is_reached G L r v)) (λ v. bit (is_reached F L r v)) G.nodes (λ v _. ap bit (reached v))
    ∙ ap (λ (n : ℕ). map (λ v. bit (is_reached F L r v)) (numbers 0 n)) size
  where
    reached : (v : ℕ) → is_reached G L r v ≡ is_reached F L r v
    reached v = same_tests (is_reached G L r v) (is_reached F L r v)
        (λ t. path_reached F L r v (path_agrees G F L same (reached_path G L r (length L) v t)))
        (λ t. path_reached G L r v (path_agrees F G L (λ e i. (sym (same e i).0, sym (same e i).1)) (reached_path F L r (length L) v t)))
