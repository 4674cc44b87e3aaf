-- Offers, what they are of, and whether they are over.
pub mod Marks
pub mod Offers
pub mod OfferRuns
pub mod Waits
pub mod Waiting
pub mod Starting
pub mod Overs
pub mod OverRuns
pub mod Halts
pub mod StartMasks
pub mod OfferedPaths
