-- the plan of a graph, by the stated rule
pub mod Laid
pub mod Found
-- the plan as the code finds it
pub mod Best
