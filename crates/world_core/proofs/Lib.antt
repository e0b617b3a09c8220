mod Lists
mod Boxes
pub mod Counts
mod Views
mod Nodes
mod StepBoxes
mod EachNode
mod Ends
mod MarkSteps
mod SameSaid
mod LinkSteps
mod BaseSteps
mod EventSteps
mod VlanSteps
mod StreamSteps
mod MarkEvents
mod Keeping
mod Asks
mod NewMarks
mod Beginnings
mod NewRows
mod Starting
pub mod Runs
pub mod OwnSteps
pub mod OneByOne
mod TickRuns
mod EventLists
mod Happenings
mod Carrying
mod LinksCarried
mod Scripts
mod Standing
pub mod Marked
mod Limits
mod Talks
mod PortOrder
mod Noting
mod Picked
mod LastChange
mod Reservations
pub mod Timelines
mod Changes
mod Places
mod Acting
mod Histories
mod NotedRuns
pub mod InStep
mod Whole
pub mod TickParts
pub mod LinkPorts
