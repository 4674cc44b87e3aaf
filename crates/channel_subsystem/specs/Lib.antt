pub mod Ends
pub mod GivenSteps
pub mod Hosting
pub mod Replaying
pub mod Stores
