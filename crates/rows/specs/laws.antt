-- the cells before the search; rows of the table
pub mod Start
pub mod Rows
