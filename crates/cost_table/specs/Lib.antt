-- what a reader must believe
pub mod Cells
pub mod Cheapest
