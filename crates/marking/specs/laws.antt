-- the root alone, one arc, and one step after another
pub mod MarkingLaws
