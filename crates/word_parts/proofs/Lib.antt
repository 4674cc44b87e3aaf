mod Back
mod Fielding
pub mod Growing
