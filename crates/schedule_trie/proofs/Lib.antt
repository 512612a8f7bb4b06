pub mod Results
pub mod lists
pub mod branches
pub mod climbs
pub mod segments
pub mod edits
pub mod forks
pub mod detaches
pub mod lengths
pub mod limbs
mod Examples
pub mod WrongEdits
