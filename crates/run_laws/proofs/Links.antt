-- What holds between a subchannel, the trace of its program and a unit.
pub mod Vanishing
pub mod LinkNeeds
pub mod LinkDrawn
pub mod LinkViews
pub mod LinkWires
pub mod LinkReports
pub mod LinkIdle
pub mod LinkMeets
