mod Posted
mod Lifting
mod GivenSteps
pub mod Storing
mod Serving
mod Sweeping
mod Choosable
