-- what a reader must believe: sets, sets put together, and the set given by a test
pub mod Sets
pub mod Unions
pub mod SetOf
-- laws
pub mod laws
