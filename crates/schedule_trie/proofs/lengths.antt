pub mod Lengths
pub mod Editions
pub mod LengthSteps
pub mod LengthsAfter
