pub mod Program
pub mod Limits
pub mod laws
