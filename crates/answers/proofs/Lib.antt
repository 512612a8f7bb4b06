pub mod Events
pub mod Allowed
pub mod Schedules
pub mod DoneStates
pub mod Gathering
pub mod NotedGoals
pub mod Listed
pub mod Building
pub mod Ranked
pub mod Tidying
pub mod UnusedChoices
pub mod PackedSoFar
mod Examples
