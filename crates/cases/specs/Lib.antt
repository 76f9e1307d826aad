-- plan files; document 01's cases A to L, and sheets that name senders
pub mod Files
pub mod Worked
-- shares of worked sheets
pub mod Shares
-- what the enquirer's answers mean
pub mod Meaning
