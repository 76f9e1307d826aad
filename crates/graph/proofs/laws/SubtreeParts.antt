-- A directed subtree arc by arc and by counts: how many of its arcs end at a node, and what each arc adds to its total. The same arcs in
-- another order are a subtree, and have the same total.
-- Assumes nothing.
use Rattle.std.specs.Prelude.{ℕ, ◌+◌, ◌≤◌, ◌<◌, ◌≡◌, refl, ◌≢◌, not, List, [], ◌∷◌, map, T, eqb}
use Rattle.std.proofs.Common.{sym, ◌∙◌, subst, ⊎_elim, arith}
use Rattle.lists.specs.Count.{bit, count}
use Rattle.lists.specs.Listed.{listed, every_listed, listed_every, listed_value, value_of, listed_count, unlisted_count, distinct_once, once_distinct}
use Rattle.lists.specs.Sums.{sum_by, sum_add, sum_map, count_sum, Same, same_listed}
use Rattle.lists.specs.Tests.{by_fact}
use Rattle.graph.specs.Graph.{Graph, Sound}
use Rattle.graph.specs.Paths.{DirectedPath}
use Rattle.graph.specs.Subtrees.{Subtree, held, total}
use Rattle.graph.proofs.laws.Reaching.{path_more}
use Rattle.graph.proofs.laws.Holding.{EndsAt, held_cases}

-- how many entries of the list end at v
abbrev pub endings : Graph → ℕ → List ℕ → ℕ
endings G v L = sum_by (λ e. bit (eqb v (G.end e))) L

-- that is how often v is among the ends
pub endings_count : (G : Graph) (v : ℕ) (L : List ℕ) → count v (map G.end L) ≡ endings G v L
endings_count G v L = count_sum v (map G.end L) ∙ sum_map (λ x. bit (eqb v x)) G.end L

-- what an arc adds to a total: its weight, and the charge of the node that it leads to
abbrev pub cost : Graph → ℕ → ℕ
cost G e = G.weight e + G.charge (G.end e)

-- a total is the charge of the root and what each arc adds
pub total_by_arc : (G : Graph) (r : ℕ) (L : List ℕ) → total G r L ≡ G.charge r + sum_by (cost G) L
total_by_arc G r L = omega (arith, sum_map G.charge G.end L, sum_add G.weight (λ e. G.charge (G.end e)) L)

-- without charges it is the sum of the weights
pub total_weights : (G : Graph) → ((v : ℕ) → G.charge v ≡ 0) → (r : ℕ) (L : List ℕ) → total G r L ≡ sum_by G.weight L
total_weights G free r L = omega (arith, no_charge (held G r L))
  where
    no_charge : (H : List ℕ) → sum_by G.charge H ≡ 0
    no_charge [] = refl
    no_charge (x ∷ H) = omega (arith, free x, no_charge H)

module _ {G : Graph} {r : ℕ} {L : List ℕ} where
  -- what a subtree has, arc by arc
  module _ (t : Subtree G r L) where
    pub arc_of : (e : ℕ) → T (listed e L) → e < G.arcs
    arc_of = every_listed (λ e. e < G.arcs) L t.on_graph

    pub start_reached : (e : ℕ) → T (listed e L) → DirectedPath G L r (G.start e)
    start_reached = every_listed (λ e. DirectedPath G L r (G.start e)) L t.joined

    -- a held node is on the graph
    pub held_lt : Sound G → (v : ℕ) → T (listed v (held G r L)) → v < G.nodes
    held_lt sound v at = ⊎_elim (λ (q : v ≡ r). omega (arith, t.root))
        (λ (d : EndsAt G L v). let (e, i, q) = d in omega (arith, q, sound.end_lt e (arc_of e i))) (held_cases G r L v at)

    -- no arc ends at the root, and at most one at each node
    pub root_endings : endings G r L ≡ 0
    root_endings = sym (endings_count G r L) ∙ unlisted_count r (map G.end L) (by_fact (listed r (map G.end L)) (λ b. T (not b))
        (λ i.
        let (e, l, q) = value_of G.end L r i in
        absurd (every_listed (λ e. G.end e ≢ r) L t.root_free e l q)) (λ _. tt))

    pub node_endings : (v : ℕ) → endings G v L ≤ 1
    node_endings v = omega (arith, endings_count G v L, distinct_once (map G.end L) t.apart v)

  -- a list of which this holds is a subtree
  pub make_subtree : r < G.nodes → ((e : ℕ) → T (listed e L) → e < G.arcs) → endings G r L ≡ 0 → ((v : ℕ) → endings G v L ≤ 1)
      → ((e : ℕ) → T (listed e L) → DirectedPath G L r (G.start e)) → Subtree G r L
  make_subtree on arcs free few joined = record {
    root = on;
    on_graph = listed_every (λ e. e < G.arcs) L arcs;
    root_free = listed_every (λ e. G.end e ≢ r) L
        (λ e t q.
        let ends_there : T (listed r (map G.end L)) = subst (λ (x : ℕ). T (listed x (map G.end L))) q (listed_value G.end L e t) in
        omega (arith, free, endings_count G r L, listed_count r (map G.end L) ends_there));
    apart = once_distinct (map G.end L) (λ v. omega (arith, endings_count G v L, few v));
    joined = listed_every (λ e. DirectedPath G L r (G.start e)) L joined;
  }

-- a subtree with its arcs in another order is a subtree, and has the same total
pub same_subtree : (G : Graph) (r : ℕ) (A B : List ℕ) → Same A B → Subtree G r A → Subtree G r B
same_subtree G r A B s t =
    let back : (e : ℕ) → T (listed e B) → T (listed e A) = same_listed B A (λ f. sym (s f)) in
    make_subtree t.root (λ e i. arc_of t e (back e i)) (sym (s (λ e. bit (eqb r (G.end e)))) ∙ root_endings t)
    (λ v. omega (arith, s (λ e. bit (eqb v (G.end e))), node_endings t v)) (λ e i. path_more G A B (same_listed A B s) (start_reached t e (back e i)))

pub same_total : (G : Graph) (r : ℕ) (A B : List ℕ) → Same A B → total G r A ≡ total G r B
same_total G r A B s = omega (arith, total_by_arc G r A, total_by_arc G r B, s (cost G))

-- the root alone is a subtree
pub root_subtree : (G : Graph) (v : ℕ) → v < G.nodes → Subtree G v []
root_subtree G v on = record { root = on; on_graph = tt; root_free = tt; apart = tt; joined = tt }
