-- the rule and the points in the words of a sheet
pub mod SheetWords
-- the rule gives one root and one plan
pub mod Roots
pub mod OnePlan
-- laws that the proofs of the points share
pub mod PointLaws
