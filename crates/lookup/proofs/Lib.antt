mod FirstIndices
mod Filling
mod Lookups
pub mod Serving
pub mod Keeping
