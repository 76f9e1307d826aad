-- what a reader must believe: the answer to a file with shares, and the share table
pub mod Sharing
-- what the dividing of a plan asks and gives
pub mod PlanReady
