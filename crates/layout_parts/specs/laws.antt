-- the test of a part
pub mod PartTests
