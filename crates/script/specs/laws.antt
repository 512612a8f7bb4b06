-- What follows from the definitions.
pub mod LineFronts
