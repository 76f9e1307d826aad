-- what the desk program writes, and the texts of document 01's sheets
pub mod Text
pub mod Worked
