-- nodes at which a terminal by itself has a finite cost
pub mod Finite
