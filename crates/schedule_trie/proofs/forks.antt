pub mod Forks
pub mod ForkSteps
pub mod ForkCuts
pub mod ForkCutSteps
pub mod ForkEnds
pub mod ForkAnswers
