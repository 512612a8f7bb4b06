-- What follows from the definitions.
pub mod Bounds
pub mod Sound
