pub mod Addresses
pub mod CodeWords
