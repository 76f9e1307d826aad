-- which tests a record passes that is found, and which bytes it was read from
pub mod Passed
