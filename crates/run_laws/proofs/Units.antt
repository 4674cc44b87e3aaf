-- What a unit does with signals and reports.
pub mod UnitSides
pub mod RunSides
pub mod UnitCurrents
pub mod UnitActs
pub mod UnitTold
