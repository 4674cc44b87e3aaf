pub mod IrbLemmas
pub mod Fits
pub mod ScswChanging
pub mod ScswShowing
