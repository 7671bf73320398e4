pub mod Held
pub mod Steps
pub mod Stored
