-- the parents of the nodes, and the nodes above a node
pub mod Parents
-- the seats of the terminals, and the terminals that sit at or below each node
pub mod Seats
-- what keeps them, and that they are those of a plan
pub mod laws
