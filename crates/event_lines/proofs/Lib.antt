pub mod Blanks
pub mod Digits
pub mod Lengths
pub mod Rows
pub mod Speaking
pub mod Wholes
