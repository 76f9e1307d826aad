-- what a reader must believe
pub mod Network
-- the index of its arcs, in tables
pub mod Indexed
-- tables that hold a sheet
pub mod HeldSheet
-- the worked sheets
pub mod Worked
