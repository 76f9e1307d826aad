-- arcs that are listed; a walk
pub mod Walk
pub mod Stops
-- one arc; arc after arc; over lent tables
pub mod Arcs
pub mod Walking
pub mod Following
