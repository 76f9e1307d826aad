-- laws of numbers and their bytes
pub mod FieldLaws
