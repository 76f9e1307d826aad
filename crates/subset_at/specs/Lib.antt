-- laws
pub mod laws
