-- what a reader must believe
pub mod Index
-- laws: what the index has, and how it is made
pub mod laws
