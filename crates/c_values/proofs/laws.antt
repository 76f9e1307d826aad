-- an answer that is given value by value
pub mod Giving
