pub mod Switch
pub mod laws
