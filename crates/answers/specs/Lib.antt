pub mod Questions
pub mod States
pub mod Answers
pub mod Gathered
pub mod Packing
pub mod Graphs
pub mod laws
