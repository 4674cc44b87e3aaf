pub mod Links
pub mod Moving
pub mod Invariant
pub mod Claims
pub mod Sending
pub mod PathsSeen
pub mod Holders
pub mod HolderSeen
