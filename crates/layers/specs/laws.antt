-- What follows from the definitions of layers, one subject in each module.
pub mod Over
pub mod OneWriter
pub mod Nested
pub mod Gathered
pub mod Layered
pub mod Settled
pub mod InPlace
pub mod Running
pub mod Initial
pub mod Equality
pub mod Flat
