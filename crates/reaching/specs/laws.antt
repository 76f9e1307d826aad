-- what the marks say
pub mod MarkLaws
-- a pass, and pass after pass
pub mod Passing
