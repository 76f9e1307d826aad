-- paths, and the nodes that a list of arcs holds
pub mod Reaching
pub mod Holding
-- subtrees: arc by arc, their size, their one path to each node
pub mod SubtreeParts
pub mod SubtreeSize
pub mod UniquePaths
-- growth
pub mod GrownLists
pub mod Growing
-- what the tests say, how many nodes a list reaches, and which nodes are the root of a subtree
pub mod ReachTest
pub mod SubtreeTest
pub mod ReachedCount
pub mod Finite
-- the least totals, and the root
pub mod LeastMeaning
pub mod Roots
-- closed tables: the lower bound
pub mod ClosedTables
pub mod Charged
pub mod LowerBound
-- supported tables: the upper bound
pub mod UpperBound
-- a table of which cells change, and one that is filled set by set
pub mod Lowering
pub mod Settling
-- of the tables without a cell above `top`, the cost table is the one that is closed and supported
pub mod Offers
pub mod CostTable
-- the finite cells of the parts of a set
pub mod PartCells
-- the layout
pub mod LayoutRule
pub mod LayoutTotal
-- cell functions that agree on the graph
pub mod SameCells
