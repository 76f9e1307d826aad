pub mod First
pub mod Cheapest
