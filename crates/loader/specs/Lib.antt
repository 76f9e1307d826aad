-- what a reader must believe
pub mod LoadedBy
-- laws of the loading
pub mod laws
