pub mod Released
pub mod Drops
pub mod Renumbered
pub mod NewSegments
pub mod Detaches
