pub mod Instructions
pub mod SeenWords
pub mod Seen
