pub mod Parting
pub mod Seeking
pub mod Drafting
pub mod Keeping
pub mod Following
pub mod Plain
