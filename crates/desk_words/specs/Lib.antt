-- the bytes of words and numbers, some numbers, and what is stored in a text
pub mod Words
pub mod Worked
pub mod Stored
