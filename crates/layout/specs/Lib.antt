-- what a reader must believe
pub mod Root
-- what follows of the root, and of the plan
pub mod laws
