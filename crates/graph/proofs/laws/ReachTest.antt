-- The test of reaching: it passes exactly where a directed path of listed arcs leads to the node, and trying longer paths than the list has
-- arcs changes nothing. The list of the nodes reached has exactly these nodes.
-- Assumes nothing.
use Rattle.std.specs.Prelude.{ℕ, zero, suc, ◌+◌, ◌-◌, ◌≤◌, ◌<◌, ◌≡◌, Bool, List, [], ◌∷◌, map, length, T}
use Rattle.std.proofs.Common.{sym, subst, ⊎_elim, arith}
use Rattle.lists.specs.Tests.{same_tests}
use Rattle.lists.specs.Select.{select}
use Rattle.lists.specs.Listed.{listed, listed_head, listed_tail, listed_cases, listed_only, listed_left, listed_right, listed_append}
use Rattle.lists.specs.Listed.{listed_value, value_of, listed_select, select_listed}
use Rattle.lists.specs.Numbers.{numbers, number_listed, listed_number}
use Rattle.lists.specs.Sums.{length_sum}
use Rattle.graph.specs.Graph.{Graph}
use Rattle.graph.specs.Paths.{DirectedPath, reached_in, is_reached, reached_nodes}
use Rattle.graph.specs.Growth.{kept}
use Rattle.graph.proofs.laws.Reaching.{path_same, path_then}
use Rattle.graph.proofs.laws.Holding.{held_after, held_after_lem}
use Rattle.graph.proofs.laws.GrownLists.{Grown}
use Rattle.graph.proofs.laws.Growing.{left_out, growth, kept_listed, kept_parts, reached_kept}

module _ (G : Graph) (L : List ℕ) (u : ℕ) where
  -- arc e starts at a node that is reached with at most m arcs; the listed arcs that do
  abbrev starts : ℕ → ℕ → Bool
  starts m e = listed (G.start e) (reached_in m G L u)

  abbrev onward : ℕ → List ℕ
  onward m = select (starts m) L

  -- a path leads to each node that is reached
  pub reached_path : (m v : ℕ) → T (listed v (reached_in m G L u)) → DirectedPath G L u v
  reached_path zero v t = path_same G L (sym (listed_only v u t))
  reached_path (suc m) v t = ⊎_elim (λ (s : T (listed v (reached_in m G L u))). reached_path m v s)
      (λ (s : T (listed v (map G.end (onward m)))).
      let (e, i, ends) = value_of G.end (onward m) v s in
      let (j, reached) = select_listed e (starts m) L i in
      path_then G L e j (reached_path m (G.start e) reached) ends)
      (listed_append v (reached_in m G L u) (map G.end (onward m)) t)

  -- one arc more reaches its end
  reached_arc : (m v e : ℕ) → T (listed e L) → T (listed (G.start e) (reached_in m G L u)) → G.end e ≡ v → T (listed v (reached_in (suc m) G L u))
  reached_arc m v e i t q =
      let ends : List ℕ = map G.end (onward m) in
      let at_end : T (listed (G.end e) ends) = listed_value G.end (onward m) e (listed_select e (starts m) L i t) in
      listed_right v (reached_in m G L u) ends (subst (λ (x : ℕ). T (listed x ends)) q at_end)

  -- what is reached with at most m arcs is reached with at most m + 1, so with any larger number
  reached_more : (m v : ℕ) → T (listed v (reached_in m G L u)) → T (listed v (reached_in (suc m) G L u))
  reached_more m v t = listed_left v (reached_in m G L u) (map G.end (onward m)) t

  reached_later : (n m v : ℕ) → T (listed v (reached_in m G L u)) → T (listed v (reached_in (n + m) G L u))
  reached_later zero m v t =
      let e : m ≡ zero + m = omega arith in
      subst (λ (x : ℕ). T (listed v (reached_in x G L u))) e t
  reached_later (suc n) m v t =
      let e : suc (n + m) ≡ suc n + m = omega arith in
      subst (λ (x : ℕ). T (listed v (reached_in x G L u))) e (reached_more (n + m) v (reached_later n m v t))

  -- where the nodes of H are reached with at most m arcs, those held after a grown list K are reached with as many more as K has
  grown_reached : (K H : List ℕ) (m : ℕ) → Grown G H K
      → ((e : ℕ) → T (listed e K) → T (listed e L)) → ((h : ℕ) → T (listed h H) → T (listed h (reached_in m G L u)))
      → (x : ℕ) → T (listed x (held_after G H K)) → T (listed x (reached_in (length K + m) G L u))
  grown_reached [] H m g sub at x t = reached_later 0 m x (at x t)
  grown_reached (e ∷ K) H m g sub at x t =
      let more : (h : ℕ) → T (listed h (G.end e ∷ H)) → T (listed h (reached_in (suc m) G L u)) =
      λ h i. ⊎_elim (λ (q : h ≡ G.end e). reached_arc m h e (sub e (listed_head e K)) (at (G.start e) g.0) (sym q))
      (λ (j : T (listed h H)). reached_more m h (at h j)) (listed_cases h (G.end e) H i) in
      let sizes : length K + suc m ≡ suc (length K) + m = omega arith in
      subst (λ (n : ℕ). T (listed x (reached_in n G L u))) sizes
      (grown_reached K (G.end e ∷ H) (suc m) g.2 (λ d i. sub d (listed_tail d e K i)) more x t)

  -- where there is a path the test passes: growth keeps arcs that reach the node, and they are no more than the list has
  pub path_reached : (v : ℕ) → DirectedPath G L u v → T (is_reached G L u v)
  path_reached v p =
      let K : List ℕ = kept G u L in
      let M : List ℕ = left_out G u L in
      let here = grown_reached K (u ∷ []) 0 (growth G u L).grown (kept_listed G u L) (λ h i. i) v (held_after_lem G u K v (reached_kept G u L p)) in
      let sizes : length L ≡ length M + (length K + 0) = omega (arith, length_sum L, length_sum K, length_sum M, kept_parts G u L (λ _. 1)) in
      subst (λ (n : ℕ). T (listed v (reached_in n G L u))) (sym sizes) (reached_later (length M) (length K + 0) v here)

  -- trying more arcs than the list has changes nothing
  pub reached_enough : (m v : ℕ) → length L ≤ m → listed v (reached_in m G L u) ≡ is_reached G L u v
  reached_enough m v l =
      let e : (m - length L) + length L ≡ m = omega arith in
      same_tests (listed v (reached_in m G L u)) (is_reached G L u v) (λ t. path_reached v (reached_path m v t))
      (λ t. subst (λ (n : ℕ). T (listed v (reached_in n G L u))) e (reached_later (m - length L) (length L) v t))

  -- a node is in the list of the nodes reached exactly where a path leads to it
  pub reached_node : (v : ℕ) → T (listed v (reached_nodes G L u)) → (v < G.nodes) × DirectedPath G L u v
  reached_node v t =
      let (i, reached) = select_listed v (is_reached G L u) (numbers 0 G.nodes) t in
      (listed_number G.nodes v i, reached_path (length L) v reached)

  pub node_reached : (v : ℕ) → v < G.nodes → DirectedPath G L u v → T (listed v (reached_nodes G L u))
  node_reached v l p = listed_select v (is_reached G L u) (numbers 0 G.nodes) (number_listed G.nodes v l) (path_reached v p)
