-- a good sheet by its numbers
pub mod GoodSheet
-- the cases of an opening, and what an opened sheet has
pub mod Cases
pub mod Opened
-- what the code returns in each case
pub mod FromJudging
