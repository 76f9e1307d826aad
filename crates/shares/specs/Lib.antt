-- what a reader must believe
pub mod SharesOf
-- the cases, the plan reader's refusals and tables, and what the shares make
pub mod laws
