pub mod Limits
pub mod Masks
pub mod Sentences
