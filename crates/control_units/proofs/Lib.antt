pub mod Serving
pub mod MapInPlace
pub mod Keeping
