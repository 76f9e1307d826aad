-- cells lowered along the arcs of an index
pub mod ByIndex
