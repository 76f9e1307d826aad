-- a call, from the run behind it
pub mod Called
