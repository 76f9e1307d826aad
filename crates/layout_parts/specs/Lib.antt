-- what a reader must believe
pub mod Parts
-- what follows of the test
pub mod laws
