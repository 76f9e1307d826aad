-- the rule of the order
pub mod BySize
pub mod Rule
