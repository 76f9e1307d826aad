-- "none" while the table is filled, and lists without a number above it
pub mod WorkingNone
pub mod Low
