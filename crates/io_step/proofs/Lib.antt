mod Engaged
mod Executions
mod Reading
mod Enabled
pub mod Given
mod Somewhere
