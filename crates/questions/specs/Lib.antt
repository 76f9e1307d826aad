-- what a reader must believe, and some answers computed
pub mod Questions
pub mod Worked
