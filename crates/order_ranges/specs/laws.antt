-- ranges of one size, and the sets below a number
pub mod Ranges
pub mod Kept
