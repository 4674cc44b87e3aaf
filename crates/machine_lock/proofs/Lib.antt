pub mod Calling
pub mod Chaining
