-- four values by their number, four cells of a node, and four columns of the table
pub mod Four
pub mod WriteFour
pub mod Columns
