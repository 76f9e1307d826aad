-- what a reader must believe, in the documents' order
pub mod Records
pub mod Arcs
pub mod Landings
pub mod Senders
