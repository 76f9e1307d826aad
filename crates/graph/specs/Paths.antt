-- Directed paths (document 01: "a row of legs .., each starting where the one before it ended; with no leg it leads from a site to
-- itself"), and which nodes a list of arcs reaches from a node.
-- Assumes nothing.
use Rattle.std.specs.Prelude.{ℕ, zero, suc, ◌<◌, ◌≡◌, Bool, List, [], ◌∷◌, ◌++◌, map, T, length}
use Rattle.lists.specs.Every.{Every}
use Rattle.lists.specs.Listed.{listed}
use Rattle.lists.specs.Select.{select}
use Rattle.lists.specs.Numbers.{numbers}
use Rattle.subset.specs.Sets.{has}
use Rattle.graph.specs.Graph.{Graph, all_arcs, Landing}

-- the row of arcs leads from u to v
abbrev pub Leads : Graph → ℕ → List ℕ → ℕ → Type 0
Leads G u [] v = u ≡ v
Leads G u (e ∷ row) v = (G.start e ≡ u) × Leads G (G.end e) row v

-- a directed path of listed arcs from u to v: L reaches v from u
pub record DirectedPath (G : Graph) (L : List ℕ) (u v : ℕ) : Type 0 where
  pub row : List ℕ
  pub each : Every (λ e. T (listed e L)) row
  pub leads : Leads G u row v

-- directed paths of any arcs lead from v to a landing of each terminal of the set w
abbrev pub Reaches : Graph → ℕ → ℕ → Type 0
Reaches G v w = (i : ℕ) → i < G.terminals → T (has w i) → (u : ℕ) × DirectedPath G (all_arcs G) v u × Landing G i u

-- to a landing of every terminal
abbrev pub ReachesAll : Graph → ℕ → Type 0
ReachesAll G v = (i : ℕ) → i < G.terminals → (u : ℕ) × DirectedPath G (all_arcs G) v u × Landing G i u

-- ---- as a test

-- the nodes to which a directed path of at most m listed arcs leads from u: u itself, and the ends of the arcs that start at one of the
-- nodes found before
abbrev pub reached_in : ℕ → Graph → List ℕ → ℕ → List ℕ
reached_in zero G L u = u ∷ []
reached_in (suc m) G L u = let H = reached_in m G L u in H ++ map G.end (select (λ e. listed (G.start e) H) L)

-- L reaches v from u: where a path leads there, so does one that is no longer than L
abbrev pub is_reached : Graph → List ℕ → ℕ → ℕ → Bool
is_reached G L u v = listed v (reached_in (length L) G L u)

-- the nodes that L reaches from u
abbrev pub reached_nodes : Graph → List ℕ → ℕ → List ℕ
reached_nodes G L u = select (is_reached G L u) (numbers 0 G.nodes)

-- ---- document 004: "every other node of T is reachable from r through a unique directed path"

-- a node that a list of arcs touches: the start or the end of one of them
pub data Touched (G : Graph) (L : List ℕ) (v : ℕ) : Type 0 where
  at_start : (e : ℕ) → T (listed e L) → G.start e ≡ v → Touched G L v
  at_end : (e : ℕ) → T (listed e L) → G.end e ≡ v → Touched G L v

-- exactly one directed path of listed arcs leads from r to v
pub record OnePath (G : Graph) (L : List ℕ) (r v : ℕ) : Type 0 where
  pub path : DirectedPath G L r v
  pub only : (other : DirectedPath G L r v) → other.row ≡ path.row
