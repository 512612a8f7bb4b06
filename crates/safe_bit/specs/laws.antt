-- What follows from the definitions.
pub mod Windows
pub mod Parts
pub mod Equality
