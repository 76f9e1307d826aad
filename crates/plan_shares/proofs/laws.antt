-- what the definitions say, in the document's words
pub mod Meaning
-- what is above a node in a subtree, arc by arc upward
pub mod Above
-- the parts of one price, and the shares of a plan
pub mod Parts
-- where nothing is unassigned
pub mod Assigned
