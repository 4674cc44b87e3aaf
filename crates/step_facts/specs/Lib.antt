pub mod Holds
pub mod Moves
pub mod Told
