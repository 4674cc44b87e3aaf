pub mod Pieces
pub mod Parsing
pub mod Scripts
pub mod Reading
pub mod Drafts
pub mod Keeping
pub mod Following
