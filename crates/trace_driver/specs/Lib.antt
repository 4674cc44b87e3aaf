pub mod Visible
pub mod Driver
