-- Listed arcs in tables of starts and ends: the graph of the tables, and the arcs' bounds.
-- Assumes nothing.
use Rattle.std.specs.Prelude.{ℕ, ◌<◌, List, [], T, length, get_or}
use Rattle.lists.specs.Listed.{listed}
use Rattle.lent_tables.specs.SheetTables.{arcs_alone}
use Rattle.graph.specs.Graph.{Graph}
use Rattle.graph.specs.HeldGraph.{graph_in}

-- the graph of the tables of starts and ends alone
abbrev pub link_graph : ℕ → List ℕ → List ℕ → Graph
link_graph n starts ends = graph_in n 0 (length starts) (arcs_alone starts ends [])

-- the listed arcs are in the tables and lead between the first n nodes
pub record Within (n : ℕ) (L starts ends : List ℕ) : Type 0 where
  pub in_starts : (e : ℕ) → T (listed e L) → e < length starts
  pub in_ends : (e : ℕ) → T (listed e L) → e < length ends
  pub start_lt : (e : ℕ) → T (listed e L) → get_or starts e 0 < n
  pub end_lt : (e : ℕ) → T (listed e L) → get_or ends e 0 < n

-- the listed arcs are below m
abbrev pub Below : ℕ → List ℕ → Type 0
Below m L = (e : ℕ) → T (listed e L) → e < m
