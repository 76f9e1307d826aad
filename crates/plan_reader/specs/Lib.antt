-- what a reader must believe
pub mod Reader
-- the cases of the answer, and the mission's points
pub mod laws
