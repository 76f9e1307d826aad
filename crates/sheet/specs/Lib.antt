-- what a reader must believe, and the bytes of the worked sheets
pub mod Verdict
pub mod Worked
-- the law beside the verdict, and laws of the reading
pub mod laws
