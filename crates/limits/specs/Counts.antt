-- How many sites, stations and legs a sheet has, as one value.
-- Assumes nothing.
use Rattle.std.specs.Prelude.{ℕ}
use Rattle.limits.specs.declared.Counts.{Counts}

abbrev pub counts : (n k arcs : ℕ) → Counts
counts n k arcs = record { n = n; k = k; arcs = arcs }
