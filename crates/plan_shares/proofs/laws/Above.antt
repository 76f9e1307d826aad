-- Paths of listed arcs up a directed subtree: a node is above another where such a path leads down from it, which with no arc leads to the node
-- itself. What is above the end of a listed arc, and what is above its start; at the top there is no other node.
-- Assumes nothing.
use Rattle.std.specs.Prelude.{ℕ, ◌≤◌, ◌<◌, ◌≡◌, refl, ◌≢◌, Bool, false, not, ◌||◌, List, T, eqb, length}
use Rattle.std.proofs.Common.{sym, ap, subst, ⊎_elim, arith, eqb→eq}
use Rattle.lists.specs.Tests.{by_fact, not_fact_false, same_tests, or_cases, or_left, or_right, eq_fact}
use Rattle.lists.specs.Count.{bit, bit_le, bit_passed}
use Rattle.lists.specs.Listed.{listed, every_listed}
use Rattle.lists.specs.DistinctValues.{one_entry}
use Rattle.lists.specs.Sums.{sum_to, sum_to_lt}
use Rattle.graph.specs.Graph.{Graph, Sound}
use Rattle.graph.specs.Paths.{DirectedPath, is_reached}
use Rattle.graph.specs.Subtrees.{Subtree, held}
use Rattle.graph.proofs.laws.Reaching.{path_same, path_then, path_carries}
use Rattle.graph.proofs.laws.ReachTest.{reached_path, path_reached}
use Rattle.graph.proofs.laws.Holding.{reached_held}
use Rattle.graph.proofs.laws.SubtreeParts.{arc_of, start_reached}

module _ (G : Graph) (L : List ℕ) where
  -- where no listed arc ends at v, no other node is above v
  pub top_alone : (v : ℕ) → ((e : ℕ) → T (listed e L) → G.end e ≢ v) → (u : ℕ) → is_reached G L u v ≡ eqb u v
  top_alone v free u = same_tests (is_reached G L u v) (eqb u v)
      (λ t. eq_fact (path_carries G L (λ x. x ≡ v → u ≡ v) (λ e i _ q. absurd (free e i q)) (reached_path G L u (length L) v t) (λ q. q) refl))
      (λ t. path_reached G L u v (path_same G L (eqb→eq u v t)))

module _ (G : Graph) (r : ℕ) (L : List ℕ) (s : Subtree G r L) where
  -- the node u is the end of arc e, or is above its start
  abbrev is_end_or_above : (e u : ℕ) → Bool
  is_end_or_above e u = eqb u (G.end e) || is_reached G L u (G.start e)

  -- a path to the end of a listed arc has no arc, or comes by the arc's start, since no other listed arc ends there
  comes_by : (e : ℕ) → T (listed e L) → (u : ℕ) → DirectedPath G L u (G.end e) → T (is_end_or_above e u)
  comes_by e t u p = (path_carries G L Comes carry p (path_same G L refl, λ q. or_left (eqb u (G.end e)) (is_reached G L u (G.start e)) (eq_fact q))).1 refl
    where
      -- a path leads from u to x, and what is to prove holds where x is the end of e
      Comes : ℕ → Type 0
      Comes x = DirectedPath G L u x × (x ≡ G.end e → T (is_end_or_above e u))

      carry : (d : ℕ) → T (listed d L) → Comes (G.start d) → Comes (G.end d)
      carry d i h = (
        path_then G L d i h.0 refl,
        λ q.
            let to_start : DirectedPath G L u (G.start e) =
            subst (λ (x : ℕ). DirectedPath G L u (G.start x)) (one_entry G.end L s.apart d e i t q) h.0 in
            or_right (eqb u (G.end e)) (is_reached G L u (G.start e)) (path_reached G L u (G.start e) to_start),
      )

  -- above the end of a listed arc there are the end itself and what is above the start
  pub above_end : (e : ℕ) → T (listed e L) → (u : ℕ) → is_reached G L u (G.end e) ≡ (eqb u (G.end e) || is_reached G L u (G.start e))
  above_end e t u = same_tests (is_reached G L u (G.end e)) (is_end_or_above e u)
      (λ i. comes_by e t u (reached_path G L u (length L) (G.end e) i))
      (λ i. path_reached G L u (G.end e) (⊎_elim (λ (q : T (eqb u (G.end e))). path_same G L (eqb→eq u (G.end e) q))
      (λ (j : T (is_reached G L u (G.start e))). path_then G L e t (reached_path G L u (length L) (G.start e) j) refl)
      (or_cases (eqb u (G.end e)) (is_reached G L u (G.start e)) i)))

  -- the end is not above the start: else it would be above the start of each arc above whose end it is, and so above the root, at which no arc ends
  pub end_not_above : (e : ℕ) → T (listed e L) → is_reached G L (G.end e) (G.start e) ≡ false
  end_not_above e t = not_fact_false (by_fact (is_reached G L x (G.start e)) (λ b. T (not b))
      (λ back. absurd (path_carries G L Apart (carry back) (start_reached s e t) root_apart back)) (λ _. tt))
    where
      x : ℕ
      x = G.end e

      -- the end of e is not above v
      Apart : ℕ → Type 0
      Apart v = T (is_reached G L x v) → ⊥

      off_root : (d : ℕ) → T (listed d L) → G.end d ≢ r
      off_root = every_listed (λ d. G.end d ≢ r) L s.root_free

      root_apart : Apart r
      root_apart i = off_root e t (eqb→eq x r (subst T (top_alone G L r off_root x) i))

      carry : T (is_reached G L x (G.start e)) → (d : ℕ) → T (listed d L) → Apart (G.start d) → Apart (G.end d)
      carry back d i h j = ⊎_elim
          (λ (q : T (eqb x (G.end d))). h (subst (λ (y : ℕ). T (is_reached G L x (G.start y)))
          (one_entry G.end L s.apart e d t i (eqb→eq x (G.end d) q)) back))
          (λ (k : T (is_reached G L x (G.start d))). h k)
          (or_cases (eqb x (G.end d)) (is_reached G L x (G.start d)) (subst T (above_end d i x) j))

  -- so fewer nodes of the graph are above the start than above the end: a measure of the way up
  pub fewer_above : (e : ℕ) → T (listed e L) → Sound G
      → sum_to G.nodes (λ u. bit (is_reached G L u (G.start e))) < sum_to G.nodes (λ u. bit (is_reached G L u (G.end e)))
  fewer_above e t sound = sum_to_lt G.nodes (G.end e) (above (G.start e)) (above (G.end e)) (λ u _. no_more u) (sound.end_lt e (arc_of s e t))
      (omega (arith, ap bit (end_not_above e t), bit_passed (is_reached G L (G.end e) (G.end e)) (path_reached G L (G.end e) (G.end e) (path_same G L refl))))
    where
      above : ℕ → ℕ → ℕ
      above v u = bit (is_reached G L u v)

      no_more : (u : ℕ) → above (G.start e) u ≤ above (G.end e) u
      no_more u = subst (λ (b : Bool). above (G.start e) u ≤ bit b) (sym (above_end e t u))
          (by_fact (eqb u (G.end e)) (λ b. above (G.start e) u ≤ bit (b || is_reached G L u (G.start e)))
          (λ _. bit_le (is_reached G L u (G.start e))) (λ _. omega arith))

  -- a listed arc's start is held
  pub start_held : (e : ℕ) → T (listed e L) → T (listed (G.start e) (held G r L))
  start_held e t = reached_held G r L (start_reached s e t)
