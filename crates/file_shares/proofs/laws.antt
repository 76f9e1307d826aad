-- the ways up in a plan, and the seats
pub mod PlanWays
-- the shares and the unassigned sum
pub mod Dividing
-- a file against the tables that hold a sheet
pub mod Shared
