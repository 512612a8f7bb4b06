pub mod Program
pub mod Limits
pub mod laws
pub mod NextTasks
pub mod Rows
