-- what a reader must believe
pub mod Steps
pub mod Costed
-- what follows of the tests of a step
pub mod laws
