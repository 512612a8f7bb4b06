pub mod StateLaws
pub mod Packed
pub mod KeyLaws
