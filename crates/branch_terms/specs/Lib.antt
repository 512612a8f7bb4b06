pub mod Refusals
pub mod Names
pub mod Forest
pub mod Limbs
pub mod Renumbering
