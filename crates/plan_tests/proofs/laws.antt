-- the first test that failed
pub mod FirstFailed
-- the tests by the marks are those of the definition
pub mod Judging
