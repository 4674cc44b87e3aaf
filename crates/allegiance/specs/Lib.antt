pub mod Allegiances
pub mod PathUse
