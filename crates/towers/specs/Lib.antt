pub mod Towers
pub mod laws
