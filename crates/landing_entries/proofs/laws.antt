-- what an entry says, and what joins it
pub mod EntryLaws
-- the flags of a table of entries
pub mod Flags
