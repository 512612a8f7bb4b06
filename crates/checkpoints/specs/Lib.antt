pub mod StoredEvents
pub mod Runs
pub mod MarkedSteps
