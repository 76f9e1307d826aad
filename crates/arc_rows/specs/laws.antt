-- the queue, and one row after another
pub mod RowLaws
