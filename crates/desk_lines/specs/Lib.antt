-- the lines of the desk program's text, and one of each kind
pub mod Lines
pub mod Worked
