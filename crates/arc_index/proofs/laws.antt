-- the group of one node, the starting places, and the list of all arcs; worked values
pub mod Groups
pub mod Places
pub mod ByEnd
pub mod Worked
-- what the search takes from the index
pub mod Indexed
-- how it is made
pub mod Making
pub mod Whole
