pub mod Stepping
pub mod Working
pub mod Sent
