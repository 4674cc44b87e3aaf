pub mod Laws
pub mod Calls
