-- A marking of nodes underway, from a root along listed arcs, and what one arc does to it.
-- Assumes nothing.
use Rattle.std.specs.Prelude.{ℕ, ◌≤◌, ◌<◌, ◌≡◌, Bool, true, false, List, length, get_or, set}
use Rattle.graph.specs.Graph.{Graph}
use Rattle.graph.specs.Paths.{DirectedPath}

-- node v is marked
abbrev pub Marked : List ℕ → ℕ → Type 0
Marked marks v = get_or marks v 0 ≡ 1

-- a marking underway: each mark is 0 or 1, the root is marked, and a path of listed arcs leads to each marked node
pub record Marking (G : Graph) (L : List ℕ) (r : ℕ) (marks : List ℕ) : Type 0 where
  pub size : length marks ≡ G.nodes
  pub bits : (v : ℕ) → v < G.nodes → get_or marks v 0 ≤ 1
  pub root : Marked marks r
  pub paths : (v : ℕ) → v < G.nodes → Marked marks v → DirectedPath G L r v

-- there are as many marks as before, and a marking of any root is still one
pub record Carried (G : Graph) (L before after : List ℕ) : Type 0 where
  pub size : length after ≡ length before
  pub carries : (r : ℕ) → Marking G L r before → Marking G L r after

-- what an arc gives, with whether its end was not marked before
abbrev pub ArcMarks : (start end : ℕ) (before after : List ℕ) → Bool → Type 0
ArcMarks start end before after true = Marked before start × (Marked before end → ⊥) × (after ≡ set before end 1)
ArcMarks start end before after false = (after ≡ before) × (Marked before start → Marked before end)
