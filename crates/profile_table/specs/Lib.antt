pub mod Answer
pub mod Theorems
pub mod Internal
