-- what a reader must believe
pub mod Steps
-- laws of what is found
pub mod laws
