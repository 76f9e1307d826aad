-- what a reader must believe
pub mod Engine
-- the cases of the answer, and the mission's points
pub mod laws
