pub mod Splits
pub mod Fronts
pub mod AnsweredLines
pub mod Pieces
mod Examples
