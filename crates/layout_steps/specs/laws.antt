-- the tests of a step, and what a search finds
pub mod Tests
-- the arcs that a search passes over
pub mod Passing
