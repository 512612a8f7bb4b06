pub mod Text
pub mod Search
pub mod Advice
pub mod Faults
