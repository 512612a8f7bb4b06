pub mod Faults
pub mod StreamFaults
pub mod BenchSources
pub mod Courses
pub mod RunEndings
pub mod Endings
pub mod Seats
pub mod DeskOpenings
