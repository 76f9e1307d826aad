-- the laws of decimal numbers, and of what is stored in a text
pub mod Decimal
pub mod Storing
