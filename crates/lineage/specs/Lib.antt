pub mod OptionalKeys
pub mod Family
pub mod Climbs
pub mod Lineages
