-- What every number below i has, and i too, every number below i + 1 has.
-- Assumes nothing.
use Rattle.std.specs.Prelude.{ℕ, ◌+◌, ◌<◌, ◌≡◌}
use Rattle.std.proofs.Common.{sym, subst, arith}
use Rattle.std.proofs.Math.Decide.{ℕ_discrete}

module _ (P : ℕ → Type 0) where
  pub below_more : (i : ℕ) → ((j : ℕ) → j < i → P j) → P i → (j : ℕ) → j < i + 1 → P j
  below_more i before last j l = go (ℕ_discrete j i)
    where
      go : Dec (j ≡ i) → P j
      go (yes e) = subst P (sym e) last
      go (no n) = before j (omega arith)
