pub mod Sha
pub mod Answer
