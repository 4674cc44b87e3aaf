pub mod Holds
pub mod Programs
pub mod Sights
pub mod Signals
pub mod Told
pub mod Units
pub mod Waiting
