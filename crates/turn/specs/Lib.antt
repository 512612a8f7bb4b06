pub mod Entries
pub mod Shares
pub mod Histories
pub mod Rule
pub mod Chairs
pub mod laws
