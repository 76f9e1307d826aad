-- the root
pub mod Roots
-- splits; over lent tables; the whole plan
pub mod Parts
pub mod Splitting
