-- What follows from the definitions.
pub mod UnaryLayers
pub mod Built
