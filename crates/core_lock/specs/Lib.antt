pub mod Named
pub mod Seats
pub mod Entering
pub mod Turns
pub mod Keeping
pub mod Outside
