-- what loaded tables say, entry by entry
pub mod Held
-- what one record writes into the tables, and the flags when all have been read
pub mod Writing
pub mod Flagged
