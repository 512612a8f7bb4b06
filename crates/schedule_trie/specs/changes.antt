pub mod Detaches
pub mod Drops
pub mod Forks
pub mod Loads
