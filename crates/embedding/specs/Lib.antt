pub mod Clocks
pub mod Guests
pub mod Hosts
