pub mod Acting
pub mod Performing
pub mod Racing
pub mod Serving
pub mod Audits
pub mod Race
