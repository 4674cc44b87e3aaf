mod Frames
mod HoldKeeps
mod UnitKeeps
mod HoldActs
mod UnitActs
mod UnitSteps
mod Clearing
mod Meaning
mod StepKeeps
mod Above
pub mod SeenSignals
