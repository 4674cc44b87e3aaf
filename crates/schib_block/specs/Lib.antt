pub mod SchibTable
pub mod Reading
pub mod Modify
pub mod Ranges
pub mod PmcwWords
pub mod PmcwPacking
