-- The least total of a node and a set of terminals: over all directed subtrees with that root that hold a landing of each terminal of
-- the set. The cost table has these totals as its cells.
-- Assumes nothing.
use Rattle.std.specs.Prelude.{ℕ, ◌^◌, ◌≤◌, ◌<◌, ◌≡◌, cond, ◌&&◌, List, map, eqb}
use Rattle.std.proofs.Math.Option.{Option, none, some, get_or}
use Rattle.lists.specs.Least.{least}
use Rattle.lists.specs.Select.{select}
use Rattle.lists.specs.Sublists.{sublists}
use Rattle.graph.specs.Graph.{Graph, all_arcs}
use Rattle.graph.specs.Subtrees.{Subtree, Covers, total, is_subtree, is_covering}

-- all directed subtrees with root v that hold a landing of each terminal of w, each with its arcs in rising order
abbrev pub subtrees_for : Graph → ℕ → ℕ → List (List ℕ)
subtrees_for G v w = select (λ L. is_subtree G v L && is_covering G v L w) (sublists (all_arcs G))

-- the least of their totals; none where there is no such subtree
abbrev pub least_total : Graph → ℕ → ℕ → Option ℕ
least_total G v w = least (map (total G v) (subtrees_for G v w))

-- what that means: no such subtree exists, or x is the total of one of them and none has less
abbrev pub NoSubtree : Graph → ℕ → ℕ → Type 0
NoSubtree G v w = (L : List ℕ) → Subtree G v L → Covers G v L w → ⊥

pub record Least (G : Graph) (v w x : ℕ) : Type 0 where
  pub tree : List ℕ
  pub subtree : Subtree G v tree
  pub covers : Covers G v tree w
  pub attained : total G v tree ≡ x
  pub least : (L : List ℕ) → Subtree G v L → Covers G v L w → x ≤ total G v L

abbrev pub IsLeastTotal : Graph → ℕ → ℕ → Option ℕ → Type 0
IsLeastTotal G v w none = NoSubtree G v w
IsLeastTotal G v w (some x) = Least G v w x

-- the cell of v and w in the cost table: the empty set costs 0, any other set its least total, with `top` for none
abbrev pub least_cell : Graph → ℕ → ℕ → ℕ → ℕ
least_cell G top v w = cond (eqb w 0) 0 (get_or (least_total G v w) top)

-- a table, given as the cell of each node and set, is that of the least totals
abbrev pub IsCostTable : Graph → (ℕ → ℕ → ℕ) → ℕ → Type 0
IsCostTable G c top = (v w : ℕ) → v < G.nodes → w < 2 ^ G.terminals → c v w ≡ least_cell G top v w

-- `top` is above the total of every directed subtree
abbrev pub Room : Graph → ℕ → Type 0
Room G top = (r : ℕ) (L : List ℕ) → Subtree G r L → total G r L < top
