-- what a reader must believe: what the opening of a sheet comes to
pub mod Opening
-- laws
pub mod laws
