pub mod Counted
pub mod Unwired
pub mod Lending
