-- the graph that loaded tables hold
pub mod Loaded
-- what the graph of a good sheet has
pub mod OfSheets
