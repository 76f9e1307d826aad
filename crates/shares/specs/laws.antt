-- the whole of a call, from the opening of the sheet on
pub mod Whole
-- "Refusals and tables are the plan reader's"; the shares and the unassigned sum make the total
pub mod Sums
