pub mod Lines
pub mod Spelling
pub mod Texts
pub mod Answers
pub mod laws
