-- The commands that a device takes, in the order of their program.
pub mod UnitOrders
pub mod UnitGrowth
pub mod LinkSent
pub mod LinkOrders
pub mod IndexOrders
pub mod RunOrders
