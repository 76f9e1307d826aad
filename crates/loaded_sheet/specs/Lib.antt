-- the tables and the graph of a loaded sheet
pub mod Held
