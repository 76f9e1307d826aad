-- the entries of a table of turns
pub mod Entries
