-- sets told station by station, parts and sizes, and parts in falling order
pub mod Terminals
pub mod Parts
pub mod Sizes
pub mod Falling
