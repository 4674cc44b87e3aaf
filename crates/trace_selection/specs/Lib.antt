pub mod Subjects
pub mod Selected
