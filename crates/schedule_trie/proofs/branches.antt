pub mod KeyedBranches
pub mod Lines
pub mod NamesApart
pub mod NamesKept
pub mod Shared
pub mod Openings
