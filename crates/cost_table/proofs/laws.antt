-- what follows of lists of cells, and of the search for the cheapest sender
pub mod Rows
pub mod Lowest
pub mod Senders
