-- what a reader must believe: the answer to a file, and the marks
pub mod FileAnswer
-- what the reading of a file's legs asks for
pub mod ArcsReady
