-- The cells of one set, as a function of the nodes: lowered along arcs until no arc gives less.
-- Assumes nothing.
use Rattle.std.specs.Prelude.{ℕ, ◌+◌, ◌≤◌, ◌<◌, ◌≡◌, ◌⊎◌}

-- an arc from v, with the cell of its end, costs no more than the cell of v
pub record ArcFrom (m : ℕ) (start end weight : ℕ → ℕ) (d : ℕ → ℕ) (v : ℕ) : Type 0 where
  pub arc : ℕ
  pub on_graph : arc < m
  pub from : start arc ≡ v
  pub gives : weight arc + d (end arc) ≤ d v

-- the cells of one set, lowered along arcs until none gives less
pub record ClosedOver (n m : ℕ) (start end weight : ℕ → ℕ) (c d : ℕ → ℕ) : Type 0 where
  pub low : (v : ℕ) → v < n → d v ≤ c v
  pub from : (v : ℕ) → v < n → (d v ≡ c v) ⊎ ArcFrom m start end weight d v
  pub closed : (e : ℕ) → e < m → d (start e) ≤ weight e + d (end e)
