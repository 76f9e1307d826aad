-- the law beside the verdict
pub mod Good
-- laws of records and of the reading
pub mod RecordLaws
pub mod Opened
pub mod Reads
-- what the code keeps true while it reads, and what it returns
pub mod Underway
pub mod Judged
