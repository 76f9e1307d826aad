-- what a reader must believe
pub mod Plan
-- the arcs of a plan as they are listed, and a walk along fitting arcs
pub mod laws
