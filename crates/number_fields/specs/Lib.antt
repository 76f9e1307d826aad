-- what a reader must believe
pub mod Fields
-- laws
pub mod laws
