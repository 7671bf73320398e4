pub mod Internal
pub mod Line
pub mod Theorems
