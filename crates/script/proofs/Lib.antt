pub mod Shapes
pub mod Bytes
pub mod Verbs
pub mod Sound
pub mod ReadBack
pub mod LineMeaning
