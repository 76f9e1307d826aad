-- The test of a directed subtree passes exactly where the list is one, and the test of covering exactly where a landing of each terminal
-- of the set is held.
-- Assumes nothing.
use Rattle.std.specs.Prelude.{ℕ, ◌<◌, ◌≢◌, Bool, not, ◌&&◌, ◌||◌, List, map, length, T, eqb, ltb}
use Rattle.std.proofs.Common.{⊎_elim, ltb→lt, lt→ltb}
use Rattle.lists.specs.Tests.{by_fact, ne_fact, fact_ne, not_both, and_left, and_right, and_both, or_cases}
use Rattle.lists.specs.Find.{any_entry, entry_any, all_entries, entries_all, all_at, all_of_lem}
use Rattle.lists.specs.Every.{Every}
use Rattle.lists.specs.Listed.{every_listed, listed_every, Distinct, distinct_test, test_distinct}
use Rattle.subset.specs.Sets.{has}
use Rattle.graph.specs.Graph.{Graph}
use Rattle.graph.specs.Paths.{DirectedPath, is_reached}
use Rattle.graph.specs.Subtrees.{Subtree, held, Covers, are_arcs, is_root_free, are_apart, are_joined, is_tree, is_subtree, is_landed, is_covering}
use Rattle.graph.proofs.laws.ReachTest.{reached_path, path_reached}

module _ (G : Graph) (r : ℕ) (L : List ℕ) where
  -- ---- each clause

  pub test_arcs : T (are_arcs G L) → Every (λ e. e < G.arcs) L
  test_arcs t = listed_every (λ e. e < G.arcs) L (λ e i. ltb→lt e G.arcs (all_entries (λ e. ltb e G.arcs) L t e i))

  pub arcs_pass : Every (λ e. e < G.arcs) L → T (are_arcs G L)
  arcs_pass h = entries_all (λ e. ltb e G.arcs) L (λ e i. lt→ltb e G.arcs (every_listed (λ e. e < G.arcs) L h e i))

  pub test_root_free : T (is_root_free G r L) → Every (λ e. G.end e ≢ r) L
  test_root_free t = listed_every (λ e. G.end e ≢ r) L (λ e i. fact_ne (G.end e) r (all_entries (λ e. not (eqb (G.end e) r)) L t e i))

  pub root_free_passes : Every (λ e. G.end e ≢ r) L → T (is_root_free G r L)
  root_free_passes h = entries_all (λ e. not (eqb (G.end e) r)) L (λ e i. ne_fact (every_listed (λ e. G.end e ≢ r) L h e i))

  pub test_apart : T (are_apart G L) → Distinct (map G.end L)
  test_apart = test_distinct (map G.end L)

  pub apart_passes : Distinct (map G.end L) → T (are_apart G L)
  apart_passes = distinct_test (map G.end L)

  pub test_joined : T (are_joined G r L) → Every (λ e. DirectedPath G L r (G.start e)) L
  test_joined t = listed_every (λ e. DirectedPath G L r (G.start e)) L
      (λ e i. reached_path G L r (length L) (G.start e) (all_entries (λ e. is_reached G L r (G.start e)) L t e i))

  pub joined_passes : Every (λ e. DirectedPath G L r (G.start e)) L → T (are_joined G r L)
  joined_passes h = entries_all (λ e. is_reached G L r (G.start e)) L
      (λ e i. path_reached G L r (G.start e) (every_listed (λ e. DirectedPath G L r (G.start e)) L h e i))

  -- ---- a subtree

  -- the last two clauses of a tree together
  abbrev from_apart : Bool
  from_apart = are_apart G L && are_joined G r L

  -- arcs of the graph, with a node for the root, are a subtree exactly where they are a tree
  pub tree_subtree : r < G.nodes → Every (λ e. e < G.arcs) L → T (is_tree G r L) → Subtree G r L
  tree_subtree on arcs t =
      let ends : T from_apart = and_right (is_root_free G r L) from_apart t in
      record {
        root = on;
        on_graph = arcs;
        root_free = test_root_free (and_left (is_root_free G r L) from_apart t);
        apart = test_apart (and_left (are_apart G L) (are_joined G r L) ends);
        joined = test_joined (and_right (are_apart G L) (are_joined G r L) ends);
      }

  pub subtree_tree : Subtree G r L → T (is_tree G r L)
  subtree_tree t =
      and_both (is_root_free G r L) from_apart (root_free_passes t.root_free)
      (and_both (are_apart G L) (are_joined G r L) (apart_passes t.apart) (joined_passes t.joined))

  pub test_subtree : T (is_subtree G r L) → Subtree G r L
  test_subtree t =
      let arcs : T (are_arcs G L && is_tree G r L) = and_right (ltb r G.nodes) (are_arcs G L && is_tree G r L) t in
      tree_subtree (ltb→lt r G.nodes (and_left (ltb r G.nodes) (are_arcs G L && is_tree G r L) t))
      (test_arcs (and_left (are_arcs G L) (is_tree G r L) arcs)) (and_right (are_arcs G L) (is_tree G r L) arcs)

  pub subtree_passes : Subtree G r L → T (is_subtree G r L)
  subtree_passes t =
      and_both (ltb r G.nodes) (are_arcs G L && is_tree G r L) (lt→ltb r G.nodes t.root)
      (and_both (are_arcs G L) (is_tree G r L) (arcs_pass t.on_graph) (subtree_tree t))

  -- ---- what it holds

  pub test_covers : (w : ℕ) → T (is_covering G r L w) → Covers G r L w
  test_covers w t i l b = any_entry (λ v. has (G.landings v) i) (held G r L)
      (⊎_elim (λ (n : T (not (has w i))). absurd (not_both (has w i) b n)) (λ (s : T (is_landed G r L i)). s)
      (or_cases (not (has w i)) (is_landed G r L i) (all_at (λ i. not (has w i) || is_landed G r L i) G.terminals t i l)))

  pub covers_passes : (w : ℕ) → Covers G r L w → T (is_covering G r L w)
  covers_passes w cov = all_of_lem (λ i. not (has w i) || is_landed G r L i) G.terminals
      (λ i l. by_fact (has w i) (λ b. (T b → T (is_landed G r L i)) → T (not b || is_landed G r L i)) (λ _ h. h tt) (λ _ _. tt)
      (λ t. let (v, at, landing) = cov i l t in entry_any (λ v. has (G.landings v) i) (held G r L) v at landing))
