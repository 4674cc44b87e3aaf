pub mod Standing
pub mod Actions
pub mod Naming
