pub mod Mixing
pub mod Selection
