pub mod KeysAbove
pub mod Climbs
pub mod ClimbSteps
