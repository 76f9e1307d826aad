-- the order for any number of stations, as an index by size, and for fewer stations
pub mod Indexed
pub mod Stations
pub mod PassedOver
-- how many sets of each size there are, where they stand, and which stands at a position
pub mod Counts
pub mod Positions
pub mod Sizes
pub mod Choices
