-- the number and the values of an answer, and some computed
pub mod Values
pub mod Worked
