-- Of the numbers below n that pass a test p, the lowest of those that cost least, where the number u costs f u. What that means, and that it is one
-- number. It is none only where no number passes.
-- Assumes nothing.
use Rattle.std.specs.Prelude.{ℕ, ◌≤◌, ◌<◌, Bool, not, ◌&&◌, ◌||◌, T, leb}
use Rattle.std.proofs.Math.Option.{Option}
use Rattle.lists.specs.Find.{all_to, first}

-- ---- the definition

-- v passes, and no number that passes costs less
abbrev pub is_cheapest : (p : ℕ → Bool) → (f : ℕ → ℕ) → (n : ℕ) → ℕ → Bool
is_cheapest p f n v = p v && all_to (λ u. not (p u) || leb (f v) (f u)) n

-- the lowest such number
abbrev pub lowest_cheapest : (p : ℕ → Bool) → (f : ℕ → ℕ) → (n : ℕ) → Option ℕ
lowest_cheapest p f n = first (is_cheapest p f n) n

-- ---- what it means

-- v is the lowest of the numbers that pass and cost least
pub record LowestCheapest (p : ℕ → Bool) (f : ℕ → ℕ) (n v : ℕ) : Type 0 where
  pub below : v < n
  pub passes : T (p v)
  pub cheapest : (u : ℕ) → u < n → T (p u) → f v ≤ f u
  pub lowest : (u : ℕ) → u < v → T (p u) → f v < f u
