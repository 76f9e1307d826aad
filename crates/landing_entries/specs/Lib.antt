-- what a reader must believe
pub mod Entries
-- laws
pub mod laws
