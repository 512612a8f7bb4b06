pub mod Scripts
pub mod Streams
pub mod Conversations
pub mod Pieces
pub mod Amounts
pub mod Faults
pub mod SourceFaults
