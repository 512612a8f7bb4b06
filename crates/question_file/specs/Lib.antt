pub mod Faults
pub mod Asked
pub mod Parsed
pub mod Lines
pub mod Reading
