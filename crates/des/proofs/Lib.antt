pub mod Each
pub mod Linear
pub mod Parity
pub mod Permutations
pub mod Sizes
