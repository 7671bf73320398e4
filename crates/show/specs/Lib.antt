pub mod Hex
pub mod Promise
