pub mod Lines
pub mod Breaks
pub mod page
pub mod Pages
pub mod Strays
pub mod VerdictWords
pub mod LawWords
pub mod Linearizability
