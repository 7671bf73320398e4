pub mod Stretches
pub mod Copies
