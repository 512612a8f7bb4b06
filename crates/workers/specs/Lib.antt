pub mod Outcomes
pub mod Hands
pub mod Slots
pub mod Owner
pub mod Segments
