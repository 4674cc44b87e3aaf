pub mod Gathering
pub mod Sinks
