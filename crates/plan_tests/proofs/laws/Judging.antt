-- The tests by the marks are those of the definition: the arcs are a tree exactly where one
-- more node is marked than arcs are listed; a tree holds a landing of every terminal exactly where the marked nodes have one of each; and
-- the weights, added record by record, are those of the listed arcs.
-- Assumes nothing.
use Rattle.std.specs.Prelude.{ℕ, ◌+◌, ◌<◌, ◌≡◌, refl, Bool, true, false, cond, List, length, get_or, T, eqb}
use Rattle.std.proofs.Common.{sym, ap, ◌∙◌, subst, arith, eqb→eq}
use Rattle.lists.specs.Tests.{same_tests, by_fact, eq_fact, fact_true}
use Rattle.lists.specs.Count.{bit}
use Rattle.lists.specs.Every.{Every}
use Rattle.lists.specs.Listed.{listed}
use Rattle.lists.specs.Numbers.{value_in}
use Rattle.lists.specs.Sums.{sum_by, sum_to, sum_to_same, sum_values}
use Rattle.subset.specs.Sets.{empty, full, has, is_part}
use Rattle.landing_entries.specs.Entries.{terminals_in}
use Rattle.subset.specs.laws.Terminals.{has_empty}
use Rattle.subset.specs.laws.Parts.{full_part, full_every}
use Rattle.subset.specs.Unions.{union_to}
use Rattle.subset.proofs.Unions.{has_union_to}
use Rattle.lent_tables.specs.SheetTables.{SheetTables}
use Rattle.graph.specs.Graph.{Graph, Sound, Landing}
use Rattle.graph.specs.HeldGraph.{graph_in, weight_in, landings_in}
use Rattle.graph.specs.Paths.{is_reached}
use Rattle.graph.specs.Subtrees.{Subtree, held, is_tree, is_covering}
use Rattle.graph.proofs.laws.Holding.{held_reached, reached_held}
use Rattle.graph.proofs.laws.SubtreeParts.{start_reached, held_lt}
use Rattle.graph.proofs.laws.SubtreeTest.{test_covers, covers_passes}
use Rattle.graph.proofs.Theorems.{tree_test, subtree_iff_count}
use Rattle.planfile.specs.Format.{listed_arc, arcs_to}
use Rattle.reaching.specs.Marks.{marks_of}
use Rattle.reaching.specs.laws.MarkLaws.{marks_size, mark_at_lem, marked_path, path_marked}
use Rattle.plan_tests.specs.ByMarks.{marked_count, terminals_marked, marked_terminals, weight_sum}

-- ---- 17: how many nodes are marked

pub tree_by_count : (G : Graph) → Sound G → (r : ℕ) (L : List ℕ) → r < G.nodes → Every (λ e. e < G.arcs) L
    → eqb (marked_count (marks_of G L r)) (length L + 1) ≡ is_tree G r L
tree_by_count G sound r L on arcs =
    let (counts, subtree) = subtree_iff_count G sound r L on arcs in
    let (from_tree, tree) = tree_test G r L on arcs in
    same_tests (eqb marked (length L + 1)) (is_tree G r L)
    (λ t. tree (subtree (omega (arith, counted, eqb→eq marked (length L + 1) t))))
    (λ t. eq_fact {x = marked} {y = length L + 1} (omega (arith, counted, counts (from_tree t))))
  where
    marked : ℕ
    marked = marked_count (marks_of G L r)

    one : (b : Bool) → bit (eqb (bit b) 1) ≡ bit b
    one true = refl
    one false = refl

    counted : marked ≡ sum_to G.nodes (λ v. bit (is_reached G L r v))
    counted =
        ap (λ (n : ℕ). sum_to n (λ v. bit (eqb (get_or (marks_of G L r) v 0) 1))) (marks_size G L r)
        ∙ sum_to_same G.nodes (λ v. bit (eqb (get_or (marks_of G L r) v 0) 1)) (λ v. bit (is_reached G L r v))
        (λ v l. ap (λ (x : ℕ). bit (eqb x 1)) (mark_at_lem G L r v l) ∙ one (is_reached G L r v))

-- ---- 18: which terminals have a landing at a marked node

module _ (marks landings : List ℕ) (v i : ℕ) where
  marked_has : T (has (terminals_marked marks landings v) i) → (get_or marks v 0 ≡ 1) × T (has (terminals_in (get_or landings v 0)) i)
  marked_has = by_fact (eqb (get_or marks v 0) 1)
      (λ b. T (has (cond b (terminals_in (get_or landings v 0)) empty) i) → (get_or marks v 0 ≡ 1) × T (has (terminals_in (get_or landings v 0)) i))
      (λ m t. (eqb→eq (get_or marks v 0) 1 m, t)) (λ _ t. absurd (subst T (has_empty i) t))

  has_marked : get_or marks v 0 ≡ 1 → T (has (terminals_in (get_or landings v 0)) i) → T (has (terminals_marked marks landings v) i)
  has_marked m t =
      subst (λ (b : Bool). T (has (cond b (terminals_in (get_or landings v 0)) empty) i)) (sym (fact_true {b = eqb (get_or marks v 0) 1} (eq_fact m))) t

pub covering_by_marks : (n k m : ℕ) (t : SheetTables) → Sound (graph_in n k m t)
    → (r : ℕ) (L : List ℕ) → Subtree (graph_in n k m t) r L
    → is_part (full k) (marked_terminals (marks_of (graph_in n k m t) L r) t.landings)
    ≡ is_covering (graph_in n k m t) r L (full k)
covering_by_marks n k m t sound r L tree =
    ap (λ (i : ℕ). is_part (full k) (union_to i at)) size ∙ same_tests (is_part (full k) found) (is_covering G r L (full k))
    (λ p.
    let (every, _) = full_part k found in
    covers_passes G r L (full k) (λ i l _. let (one, _) = has_union_to n at i in landed i (one (every p i l))))
    (λ p.
    let (_, part) = full_part k found in
    part (λ i l. let (_, in_union) = has_union_to n at i in in_union (at_node i (test_covers G r L (full k) p i l (full_every k (full k) refl i l)))))
  where
    G : Graph
    G = graph_in n k m t

    at : ℕ → ℕ
    at = terminals_marked (marks_of G L r) t.landings

    found : ℕ
    found = union_to n at

    size : length (marks_of G L r) ≡ n
    size = marks_size G L r

    -- a terminal with a landing at a marked node has one at a held node, and the other way round
    landed : (i : ℕ) → (v : ℕ) × (v < n) × T (has (at v) i) → (v : ℕ) × T (listed v (held G r L)) × Landing G i v
    landed i (v, l, h) =
        let (marked, landing) = marked_has (marks_of G L r) t.landings v i h in (
          v,
          reached_held G r L (marked_path G L r v l marked),
          subst (λ (w : ℕ). T (has w i)) (sym (landings_in n k m t v l)) landing,
        )

    at_node : (i : ℕ) → (v : ℕ) × T (listed v (held G r L)) × Landing G i v → (v : ℕ) × (v < n) × T (has (at v) i)
    at_node i (v, here, landing) =
        let l : v < n = held_lt tree sound v here in
        let marked = path_marked G L r v l (held_reached G r L (start_reached tree) v here) in
        (v, l, has_marked (marks_of G L r) t.landings v i marked (subst (λ (w : ℕ). T (has w i)) (landings_in n k m t v l) landing))

-- ---- 19: the sum of the weights

pub weights_sum : (n k a : ℕ) (t : SheetTables) (file : List ℕ) (m : ℕ) → ((e : ℕ) → T (listed e (arcs_to file m)) → e < a)
    → weight_sum file m t.weights ≡ sum_by (graph_in n k a t).weight (arcs_to file m)
weights_sum n k a t file m arcs =
    sum_to_same m (λ i. get_or t.weights (listed_arc file i) 0) (λ i. G.weight (listed_arc file i))
    (λ i l. sym (weight_in n k a t (listed_arc file i) (arcs (listed_arc file i) (value_in (listed_arc file) m i l))))
    ∙ sum_values G.weight (listed_arc file) m
  where
    G : Graph
    G = graph_in n k a t
