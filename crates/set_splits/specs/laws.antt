-- the costs of sets at four nodes, the splits of one set, pairs of them, and parts of it that cost nothing
pub mod FourCosts
pub mod BestSplit
pub mod PairSums
pub mod FreeParts
