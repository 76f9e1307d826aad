-- what the contracts of this crate and of others speak of
pub mod Flags
