pub mod Gives
pub mod Theorems
