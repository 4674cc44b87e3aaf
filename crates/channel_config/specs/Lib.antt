pub mod SubchannelWords
pub mod Choices
pub mod Setup
pub mod Lawful
pub mod Refusing
pub mod Numbers
