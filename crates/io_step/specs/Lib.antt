pub mod Operands
pub mod Executing
pub mod GivenOperands
pub mod Performing
