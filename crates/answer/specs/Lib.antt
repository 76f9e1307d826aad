-- what each answer states
pub mod Stated
