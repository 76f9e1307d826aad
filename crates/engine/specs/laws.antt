-- the cases of the answer
pub mod Rules
-- the planning of a sheet from its opening on
pub mod Whole
-- the mission's points, of the engine as it is defined
pub mod PointOne
pub mod PointTwo
pub mod PointThree
