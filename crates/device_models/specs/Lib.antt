pub mod Shapes
pub mod Commands
pub mod Blocks
pub mod ConsoleCommands
pub mod Lines
pub mod Rejects
pub mod AnyDevices
