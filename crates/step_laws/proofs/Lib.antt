pub mod Choices
mod Faults
pub mod Executed
pub mod Results
mod Walk
mod Suiting
pub mod Indices
pub mod Marks
mod Blocks
