-- what is asked of the tables, cells that are closed over the arcs, and cells that are all "none"
pub mod Searched
pub mod ClosedCells
pub mod NoneFinite
