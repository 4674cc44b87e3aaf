pub mod Answered
pub mod Owing
mod Entries
mod Turning
mod Acting
