pub mod Marked
pub mod Internal
