-- the tables that the listed arcs stand in
pub mod Links
pub mod Listed
-- a marking underway, and what one arc does to it
pub mod Marking
-- what keeps a marking
pub mod laws
