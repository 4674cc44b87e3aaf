pub mod Lines
pub mod Moving
pub mod Named
pub mod Refusing
