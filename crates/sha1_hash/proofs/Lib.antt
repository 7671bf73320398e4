pub mod Chain
pub mod Digest
