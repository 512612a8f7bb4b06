pub mod Neighbours
pub mod ReadFirst
pub mod laws
