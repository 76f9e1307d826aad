-- the cases of the answer, and the whole reading
pub mod Rules
pub mod Whole
-- the mission's points
pub mod PointTwo
pub mod DueFaults
pub mod PointOne
