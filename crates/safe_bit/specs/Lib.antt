pub mod Actions
pub mod Memory
pub mod Windows
pub mod Parts
pub mod laws
