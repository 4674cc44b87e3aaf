pub mod AnswerPaths
mod Kept
mod PathIndices
mod Returned
pub mod Answered
pub mod Working
