pub mod Items
pub mod Discovered
pub mod Started
pub mod Reachable
pub mod Searched
pub mod Expanding
pub mod Traced
mod Examples
