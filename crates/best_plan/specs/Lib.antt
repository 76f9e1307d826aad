-- what a reader must believe
pub mod Plan
-- the plan by the stated rule, and as the code finds it
pub mod laws
