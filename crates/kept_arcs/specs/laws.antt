-- lists of arcs of which only a cheapest one is kept of those with the same start and end
pub mod Kept
pub mod Groups
