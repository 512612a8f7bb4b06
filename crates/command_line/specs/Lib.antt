pub mod Ranges
pub mod CommandLine
