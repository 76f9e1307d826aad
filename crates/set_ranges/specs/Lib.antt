-- laws: what the contracts of this crate speak of, and what their proofs rest on
pub mod laws
