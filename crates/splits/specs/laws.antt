-- the rows of four nodes, and the splits of the sets of one size
pub mod FourRows
pub mod SplitRows
