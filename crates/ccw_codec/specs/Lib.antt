pub mod Command
pub mod CcwTable
pub mod Block
