pub mod OneSide
pub mod KeptSignals
pub mod TakenSignals
pub mod PathMasks
pub mod PathOrder
pub mod PathFilling
