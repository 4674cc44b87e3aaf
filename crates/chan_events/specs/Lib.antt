pub mod Events
pub mod Instructions
pub mod Replies
pub mod ReportWords
pub mod Fields
