-- cells that are closed over the arcs, the arcs in tables, four cells of a node, cells lowered along arcs, an index of arcs, and what is asked where cells
-- are settled along it
pub mod ClosedOver
pub mod Arcs
pub mod LowerFour
pub mod Lowered
pub mod ByIndex
pub mod Settling
pub mod Legs
