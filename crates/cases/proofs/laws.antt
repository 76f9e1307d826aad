-- the engines and readers that the points shut out
pub mod ShutOut
-- what the enquirer's answers mean over the tables that the engine leaves
pub mod Enquired
-- nothing is unassigned in the engine's plans
pub mod EngineShares
