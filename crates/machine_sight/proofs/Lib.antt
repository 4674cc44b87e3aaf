pub mod Following
pub mod Sameness
pub mod Seeing
pub mod Wiring
