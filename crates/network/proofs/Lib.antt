pub mod HeldSheet
pub mod laws
