-- Two properties of a table of costs, given as the cell of each node and set of terminals, that speak of its cells only, not of subtrees:
-- closed, where no landing, arc or split gives less than a cell; supported, where each finite cell is no less than what some landing, arc
-- or split gives. A cell is finite where it is below `top`.
-- Assumes nothing.
use Rattle.std.specs.Prelude.{ℕ, ◌+◌, ◌^◌, ◌≤◌, ◌<◌, ◌≡◌, ◌≢◌, ◌&&◌, cond, eqb}
use Rattle.std.specs.Int.Bits.{bit_and}
use Rattle.subset.specs.Sets.{single}
use Rattle.graph.specs.Graph.{Graph, Landing}

-- ---- closed

-- No landing and no split gives less than a cell of the set w. A set is split into two sets y and z that are not empty and have no terminal
-- in common; y + z is the set. The charge of v is counted in the cells of both.
pub record StartedSet (G : Graph) (c : ℕ → ℕ → ℕ) (w : ℕ) : Type 0 where
  pub landing : (v i : ℕ) → v < G.nodes → i < G.terminals → w ≡ single i → Landing G i v → c v w ≤ G.charge v
  pub split : (v y z : ℕ) → v < G.nodes → y ≢ 0 → z ≢ 0 → bit_and y z ≡ 0 → y + z ≡ w → c v w + G.charge v ≤ c v y + c v z

-- and no arc does: the set w is closed
pub record ClosedSet (G : Graph) (c : ℕ → ℕ → ℕ) (w : ℕ) : Type 0 where
  pub started : StartedSet G c w
  pub arc : (e : ℕ) → e < G.arcs → c (G.start e) w ≤ G.weight e + G.charge (G.start e) + c (G.end e) w

-- the empty set costs 0, and every other set is closed
pub record Closed (G : Graph) (c : ℕ → ℕ → ℕ) : Type 0 where
  pub nothing : (v : ℕ) → v < G.nodes → c v 0 ≡ 0
  pub sets : (w : ℕ) → w ≢ 0 → w < 2 ^ G.terminals → ClosedSet G c w

-- ---- supported

-- at node v and set w a landing gives at most x, or an arc or a split does whose cells are finite
pub data Support (G : Graph) (c : ℕ → ℕ → ℕ) (top v w x : ℕ) : Type 0 where
  by_landing : (i : ℕ) → i < G.terminals → w ≡ single i → Landing G i v → G.charge v ≤ x → Support G c top v w x
  by_arc : (e : ℕ) → e < G.arcs → G.start e ≡ v → c (G.end e) w < top → G.weight e + G.charge v + c (G.end e) w ≤ x → Support G c top v w x
  by_split : (y z : ℕ) → y ≢ 0 → z ≢ 0 → bit_and y z ≡ 0 → y + z ≡ w → c v y < top → c v z < top → c v y + c v z ≤ x + G.charge v → Support G c top v w x

-- each finite cell of a set that is not empty has such a support
abbrev pub Supported : Graph → (ℕ → ℕ → ℕ) → ℕ → Type 0
Supported G c top = (v w : ℕ) → v < G.nodes → w ≢ 0 → w < 2 ^ G.terminals → c v w < top → Support G c top v w (c v w)

-- no cell is above `top`
abbrev pub Capped : Graph → (ℕ → ℕ → ℕ) → ℕ → Type 0
Capped G c top = (v w : ℕ) → v < G.nodes → w < 2 ^ G.terminals → c v w ≤ top

-- ---- one cell changed

-- the table c with x as the cell of v and w
abbrev pub put : (ℕ → ℕ → ℕ) → ℕ → ℕ → ℕ → ℕ → ℕ → ℕ
put c v w x u y = cond (eqb u v && eqb y w) x (c u y)
