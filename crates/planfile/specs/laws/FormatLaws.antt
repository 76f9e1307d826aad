-- What the contracts speak of: see proofs/laws/FormatLaws.antt.
-- Assumes nothing.
use Rattle.std.specs.Prelude.{ℕ, ◌<◌, ◌^◌, List, length}
use Rattle.lists.specs.Every.{Every}

-- each number fits its bytes
pub record Fits (root total : ℕ) (arcs : List ℕ) : Type 0 where
  pub root_fits : root < 2 ^ 16
  pub total_fits : total < 2 ^ 32
  pub count_fits : length arcs < 2 ^ 16
  pub arcs_fit : Every (λ (e : ℕ). e < 2 ^ 16) arcs
