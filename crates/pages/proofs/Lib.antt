pub mod Ranges
pub mod Lines
pub mod VerdictExamples
pub mod VerdictKnown
pub mod VerdictWords
pub mod VerdictOverlaps
pub mod RecordedHistories
pub mod LawWords
pub mod AtomicWords
mod Examples
pub mod Linearizations
pub mod Rankings
