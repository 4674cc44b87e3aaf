pub mod Parting
pub mod Selecting
