pub mod Faults
pub mod Tracing
