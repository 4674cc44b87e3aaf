pub mod Escapes
pub mod Harmless
pub mod Marks
pub mod Pages
