pub mod Counts
pub mod Limits
pub mod Marks
pub mod Refusals
