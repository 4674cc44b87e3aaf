pub mod Waiting
pub mod Turns
pub mod Reporting
