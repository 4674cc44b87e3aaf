pub mod Giving
pub mod PathTurns
