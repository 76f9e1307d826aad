-- the text of an answer, and what it needs
pub mod AnswerText
pub mod Listable
