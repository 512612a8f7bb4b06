-- Laws that follow from the definitions.
pub mod PlaceLaws
