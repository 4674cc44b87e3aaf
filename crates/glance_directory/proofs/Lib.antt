pub mod Finding
pub mod Rewriting
pub mod Changing
pub mod Directories
