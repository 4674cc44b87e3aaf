pub mod Balance
pub mod Finding
pub mod Shown
pub mod Waiting
