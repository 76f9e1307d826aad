-- the number of the interface
pub mod Interface
-- what a C function returns and leaves of a run, and some calls computed
pub mod Returned
pub mod Worked
-- laws
pub mod laws
