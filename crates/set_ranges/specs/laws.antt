-- the sets in their order as an index by size
pub mod Listed
