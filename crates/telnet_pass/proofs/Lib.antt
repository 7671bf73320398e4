pub mod Running
pub mod Stretching
