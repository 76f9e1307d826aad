-- Directed subtrees, in document 01's words: "a root and a list of legs on the sheet, perhaps empty: none ends at the root, no two
-- entries end at one site, and each start is reached from the root by a directed path of listed legs". What a subtree holds, and its total.
-- Assumes nothing.
use Rattle.std.specs.Prelude.{ℕ, ◌+◌, ◌<◌, ◌≢◌, Bool, not, ◌&&◌, ◌||◌, List, ◌∷◌, map, T, eqb, ltb}
use Rattle.lists.specs.Every.{Every}
use Rattle.lists.specs.Listed.{listed, Distinct, are_distinct}
use Rattle.lists.specs.Find.{any_of, all_of, all_to}
use Rattle.lists.specs.Sums.{sum_by}
use Rattle.subset.specs.Sets.{has}
use Rattle.graph.specs.Graph.{Graph, Landing}
use Rattle.graph.specs.Paths.{DirectedPath, is_reached}

-- L is a directed subtree with root r
pub record Subtree (G : Graph) (r : ℕ) (L : List ℕ) : Type 0 where
  -- "a root"
  pub root : r < G.nodes
  -- "and a list of legs on the sheet, perhaps empty"
  pub on_graph : Every (λ e. e < G.arcs) L
  -- "none ends at the root"
  pub root_free : Every (λ e. G.end e ≢ r) L
  -- "no two entries end at one site"
  pub apart : Distinct (map G.end L)
  -- "each start is reached from the root by a directed path of listed legs"
  pub joined : Every (λ e. DirectedPath G L r (G.start e)) L

-- the nodes that it holds: its root and the ends of its arcs
abbrev pub held : Graph → ℕ → List ℕ → List ℕ
held G r L = r ∷ map G.end L

-- it holds a landing of each terminal of the set w
abbrev pub Covers : Graph → ℕ → List ℕ → ℕ → Type 0
Covers G r L w = (i : ℕ) → i < G.terminals → T (has w i) → (v : ℕ) × T (listed v (held G r L)) × Landing G i v

-- it holds a landing of every terminal
abbrev pub CoversAll : Graph → ℕ → List ℕ → Type 0
CoversAll G r L = (i : ℕ) → i < G.terminals → (v : ℕ) × T (listed v (held G r L)) × Landing G i v

-- its total: the weights of its arcs, and the charges of the nodes that it holds
abbrev pub total : Graph → ℕ → List ℕ → ℕ
total G r L = sum_by G.weight L + sum_by G.charge (held G r L)

-- ---- as tests, one for each clause

abbrev pub are_arcs : Graph → List ℕ → Bool
are_arcs G L = all_of (λ e. ltb e G.arcs) L

abbrev pub is_root_free : Graph → ℕ → List ℕ → Bool
is_root_free G r L = all_of (λ e. not (eqb (G.end e) r)) L

abbrev pub are_apart : Graph → List ℕ → Bool
are_apart G L = are_distinct (map G.end L)

abbrev pub are_joined : Graph → ℕ → List ℕ → Bool
are_joined G r L = all_of (λ e. is_reached G L r (G.start e)) L

-- "A file's legs are a tree when none ends at the root, no two end at one site, and each start is reached from the root."
abbrev pub is_tree : Graph → ℕ → List ℕ → Bool
is_tree G r L = is_root_free G r L && (are_apart G L && are_joined G r L)

abbrev pub is_subtree : Graph → ℕ → List ℕ → Bool
is_subtree G r L = ltb r G.nodes && (are_arcs G L && is_tree G r L)

-- some held node is a landing of terminal i
abbrev pub is_landed : Graph → ℕ → List ℕ → ℕ → Bool
is_landed G r L i = any_of (λ v. has (G.landings v) i) (held G r L)

abbrev pub is_covering : Graph → ℕ → List ℕ → ℕ → Bool
is_covering G r L w = all_to (λ i. not (has w i) || is_landed G r L i) G.terminals
