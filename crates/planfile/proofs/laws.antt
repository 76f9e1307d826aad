-- the law beside the encoding
pub mod Encoded
-- laws of the format and of the writing
pub mod FormatLaws
pub mod WritingLaws
-- the legs that are listed
pub mod ListedLaws
