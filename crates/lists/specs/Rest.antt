-- The part of a list from a place to its end.
-- Assumes nothing.
use Rattle.std.specs.Prelude.{ℕ, ◌-◌, ◌≡◌, List, length, take, drop}
use Rattle.std.proofs.Common.{arith, length-drop, take_all}

-- a part that goes to the end, as code takes it, is what is left from its start
pub take_rest : {A : Type 0} (at : ℕ) (l : List A) → take (length l - at) (drop at l) ≡ drop at l
take_rest at l = take_all (length l - at) (drop at l) (omega (arith, length-drop at l))
