pub mod Parts
pub mod Internal
