-- the table while it is filled
pub mod Filling
-- from the start to the end
pub mod Whole
pub mod KeptArcs
