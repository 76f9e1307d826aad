-- what is lent to an engine and to a plan reader, and what a run gives
pub mod Runs
-- the stated rule by which equals are chosen
pub mod Rule
-- which refusal of a plan file is due
pub mod FileDue
-- the mission's three points
pub mod PointOne
pub mod PointTwo
pub mod PointThree
