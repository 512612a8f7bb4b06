pub mod RunEndings
pub mod LookAnswers
pub mod Endings
pub mod DeskCalls
pub mod UnchangedTower
pub mod Benches
mod Examples
