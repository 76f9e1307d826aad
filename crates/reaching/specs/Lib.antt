-- what a reader must believe: the marks of the nodes that listed arcs reach
pub mod Marks
-- what a pass gives
pub mod Passes
-- what the marks say, and that the passes come to them
pub mod laws
