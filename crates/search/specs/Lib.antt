-- what is asked of the tables
pub mod Searchable
-- the table while it is filled, and the search from its start to its end
pub mod laws
