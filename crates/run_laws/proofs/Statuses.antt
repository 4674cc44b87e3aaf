-- The address and the count that a status shows.
pub mod StatusCounts
pub mod StepCounts
pub mod Shows
pub mod Statuses
pub mod StatusRuns
