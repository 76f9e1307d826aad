-- the rounds of the turns, by number
pub mod Rounds
-- laws: what the contracts of this crate speak of
pub mod laws
