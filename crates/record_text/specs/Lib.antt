pub mod Numbers
pub mod Names
pub mod LineWords
pub mod Holds
pub mod SignalTexts
pub mod SignalFields
