-- what the code keeps while it walks the rows
pub mod Rows
-- the queue, and one row after another
pub mod laws
