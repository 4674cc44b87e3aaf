pub mod Faulting
pub mod Growing
pub mod Stepping
