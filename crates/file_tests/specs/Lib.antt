-- what a reader must believe: the faults of a file by itself, and what the code returns of a test
pub mod FileFaults
pub mod Tested
