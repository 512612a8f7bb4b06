pub mod NoRepeats
pub mod LastKeys
pub mod ListParts
pub mod KeyPositions
pub mod KeyIndices
pub mod PathsWithout
pub mod Searches
