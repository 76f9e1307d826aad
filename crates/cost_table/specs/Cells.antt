-- The cost table as a list of cells (document 01, "The cost table"): "Cell v times 2^k + W holds the least total of a directed subtree with
-- root v that holds a landing of each station in W, or 4,294,967,295 where none exists ("none"). The empty set costs 0."
-- Assumes nothing.
use Rattle.std.specs.Prelude.{ℕ, ◌+◌, ◌*◌, ◌^◌, List, map, get_or}
use Rattle.lists.specs.Joined.{joined}
use Rattle.lists.specs.Numbers.{numbers}
use Rattle.graph.specs.Graph.{Graph}
use Rattle.graph.specs.LeastTotals.{least_cell}

-- the cell of node v and the set w in a list of cells, where each node has `size` of them, 2^k
abbrev pub cell_in : List ℕ → (size : ℕ) → (v w : ℕ) → ℕ
cell_in cells size v w = get_or cells (v * size + w) 0

-- the cells of n nodes with `size` sets each, node by node, where c is the cell of a node and a set
abbrev pub cells_of : (n size : ℕ) → (ℕ → ℕ → ℕ) → List ℕ
cells_of n size c = joined (λ v. map (c v) (numbers 0 size)) (numbers 0 n)

-- the cost table of a graph, with `top` for "none"
abbrev pub cost_table : Graph → ℕ → List ℕ
cost_table G top = cells_of G.nodes (2 ^ G.terminals) (least_cell G top)
