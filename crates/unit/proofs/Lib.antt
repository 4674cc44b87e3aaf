pub mod Answered
pub mod Apart
pub mod AnswerPaths
pub mod Reported
