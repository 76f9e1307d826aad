-- the lines of one leg more, and the parts of an answer's text
pub mod Listed
