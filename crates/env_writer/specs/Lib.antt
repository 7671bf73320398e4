pub mod Promise
pub mod Theorems
pub mod Internal
