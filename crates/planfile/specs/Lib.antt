-- what a reader must believe
pub mod Format
pub mod Writing
pub mod Listed
-- laws
pub mod laws
