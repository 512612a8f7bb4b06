pub mod Codes
pub mod CodedHistory
pub mod Phases
pub mod PhaseSteps
pub mod OperationSteps
pub mod RanksFromCodes
pub mod Kept
