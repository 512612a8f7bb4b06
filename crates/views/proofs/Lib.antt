pub mod PageAlone
pub mod Replays
pub mod Lenses
pub mod Spots
pub mod IndexedEvents
pub mod BranchLengths
pub mod Slips
pub mod Strays
