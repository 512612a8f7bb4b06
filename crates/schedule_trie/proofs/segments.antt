pub mod Changes
pub mod Notes
pub mod CellHolders
pub mod TouchedSegments
pub mod StepSet
pub mod Division
pub mod DivisionSteps
