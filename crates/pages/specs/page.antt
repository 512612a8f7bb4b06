-- Pages, one by one: their data and their texts.
pub mod Head
pub mod Names
pub mod Process
pub mod Memory
pub mod State
pub mod Bits
pub mod Pending
pub mod History
pub mod Verdict
pub mod Branches
pub mod Cursor
pub mod Steps
