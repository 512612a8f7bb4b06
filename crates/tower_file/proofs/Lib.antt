pub mod Texts
pub mod LinesLeft
pub mod Readings
pub mod PassedFaults
pub mod Formats
pub mod Sound
pub mod ReadBack
pub mod TowerFormat
pub mod StepLoop
pub mod BenchLimbs
pub mod BenchSound
pub mod BenchReadBack
pub mod BenchFormat
pub mod LimbLoop
pub mod LimbNames
pub mod TowerNames
mod Examples
mod BenchRows
