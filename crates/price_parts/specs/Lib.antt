-- what the splitting of prices asks and gives
pub mod Splitting
-- what keeps it
pub mod laws
