-- the records of a good sheet, read without a test
pub mod FirstRecord
-- what the code keeps true while it loads
pub mod Loading
