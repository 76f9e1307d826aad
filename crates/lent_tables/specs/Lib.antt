-- what a reader must believe: the tables that hold a sheet, those that hold the index of its legs, and the lengths that are needed
pub mod SheetTables
pub mod IndexTables
pub mod Lengths
-- laws
pub mod laws
