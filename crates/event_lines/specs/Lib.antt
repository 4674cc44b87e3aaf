pub mod EventLines
pub mod ReadLines
pub mod ReportLines
pub mod Sides
pub mod Speakable
