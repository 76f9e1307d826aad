-- where a file has no fault of its own
pub mod Faults
-- what is returned of a file that has passed its tests, and of one that has not
pub mod Returned
