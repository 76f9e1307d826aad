-- What the code keeps while it walks the rows of listed arcs: the bounds of the tables, and that a marking of any root is still one.
-- Assumes nothing.
use Rattle.std.specs.Prelude.{ℕ, ◌≤◌, ◌<◌, ◌≡◌, List, T, length, get_or}
use Rattle.lists.specs.Listed.{listed}
use Rattle.graph.specs.Graph.{Graph}
use Rattle.marking.specs.Links.{Within, Below}
use Rattle.marking.specs.Marking.{Carried}

-- the listed arcs are in the table of starts, and start below n
abbrev pub StartsBelow : ℕ → List ℕ → List ℕ → Type 0
StartsBelow n L starts = (e : ℕ) → T (listed e L) → (e < length starts) × (get_or starts e 0 < n)

-- every entry is below n
abbrev pub AllBelow : ℕ → List ℕ → Type 0
AllBelow n entries = (i : ℕ) → i < length entries → get_or entries i 0 < n

-- what the walk along the rows asks for
pub record RowsReady (L starts ends next : List ℕ) (n : ℕ) : Type 0 where
  pub within : Within n L starts ends
  pub linked : Below (length next) L

-- a queue with node v at its end, where there was room, and the number of its nodes
pub record Queued (v : ℕ) (before after : List ℕ) (tail : ℕ) : Type 0 where
  pub size : length after ≡ length before
  pub fits : tail ≤ length after
  pub nodes : (n : ℕ) → v < n → AllBelow n before → AllBelow n after

-- a row, or some of it, has marked: the marks before and after, the queue, and the number of its nodes
pub record RowMarked (G : Graph) (L before after queue : List ℕ) (tail : ℕ) : Type 0 where
  pub fits : tail ≤ length queue
  pub nodes : AllBelow (length before) queue
  pub carried : Carried G L before after
