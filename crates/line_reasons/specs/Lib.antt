pub mod Verdicts
pub mod Telling
