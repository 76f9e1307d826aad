-- what a reader must believe: seats, parts of a price, shares; and some computed
pub mod Shares
pub mod Worked
