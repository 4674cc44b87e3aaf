pub mod Words
pub mod Settings
pub mod Actions
pub mod Faults
pub mod Races
pub mod Slots
