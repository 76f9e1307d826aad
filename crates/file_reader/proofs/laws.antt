-- what the marks say
pub mod MarksSay
-- the marks and the tests that the code makes are those of the graph that the tables hold
pub mod Against
-- what an accepted file has
pub mod Accepted
