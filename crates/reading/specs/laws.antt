-- what is known where a record or the end is found
pub mod Found
-- what the code adds up fits its numbers
pub mod Room
