pub mod Directory
pub mod Cells
pub mod Raising
pub mod Touching
pub mod PathTurns
