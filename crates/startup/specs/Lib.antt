pub mod Response
pub mod Theorems
