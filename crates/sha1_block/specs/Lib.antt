pub mod Held
pub mod Internal
