-- what a reader must believe
pub mod Loaded
-- what loaded tables say, and what one record writes
pub mod laws
