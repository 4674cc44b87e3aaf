pub mod Accesses
pub mod Moving
pub mod Commands
pub mod ChunkNumbers
pub mod DataChaining
pub mod ToDevice
pub mod FromDevice
pub mod Numbers
