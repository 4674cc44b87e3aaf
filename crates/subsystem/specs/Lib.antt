pub mod Headline
pub mod Keeping
