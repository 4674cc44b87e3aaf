pub mod Tied
pub mod Setting
