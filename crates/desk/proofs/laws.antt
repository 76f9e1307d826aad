-- the text of the engine's answer is the text of the sheet; the text of an input
pub mod Answered
pub mod Input
