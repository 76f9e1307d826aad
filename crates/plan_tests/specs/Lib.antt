-- what a reader must believe: the faults of a plan against the sheet
pub mod PlanFaults
-- the tests as the code makes them, by the marks
pub mod ByMarks
