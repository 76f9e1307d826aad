-- the answers by the tests that are made, and what the best sender is
pub mod Tested
pub mod Best
