-- what a reader must believe
pub mod Graph
pub mod HeldGraph
pub mod Paths
pub mod Subtrees
pub mod LeastTotals
pub mod Growth
pub mod ClosedSupported
pub mod Layout
-- small worked graphs
pub mod Worked
