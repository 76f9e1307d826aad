-- the tests of the lengths
pub mod LengthLaws
