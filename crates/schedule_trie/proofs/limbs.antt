pub mod LimbCounts
pub mod LoadSteps
pub mod OwnParts
pub mod MarkSteps
pub mod LimbFromMarks
pub mod LimbsSaved
pub mod LimbLimits
