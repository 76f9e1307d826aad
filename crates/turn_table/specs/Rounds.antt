-- The rounds of the turns, by number.
-- Assumes nothing.
use Rattle.std.specs.Prelude.{ℕ, cond, eqb}
use Rattle.turn_table.specs.declared.Round.{Round}
use Rattle.turn_table.specs.declared.Round.TheVariants.{AllWait, RestWaits, LeastFirst}

-- round 0, round 1, and each later one
abbrev pub round_of : ℕ → Round
round_of number = cond (eqb number 0) AllWait (cond (eqb number 1) RestWaits LeastFirst)
