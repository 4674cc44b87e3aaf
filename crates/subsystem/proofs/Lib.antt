pub mod Pasts
pub mod Rising
mod Answering
mod Accepting
mod Headlines
