pub mod Keeping
pub mod Grouping
