-- Which bytes of a command move, and where.
pub mod Lists
pub mod Chainings
pub mod Accesses
pub mod Copies
pub mod UnitFlows
pub mod LinkModes
pub mod LinkCourses
pub mod LinkFlows
pub mod RunFlows
pub mod Used
pub mod Kept
pub mod Moves
pub mod NextChunks
