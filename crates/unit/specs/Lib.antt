pub mod UnitWords
