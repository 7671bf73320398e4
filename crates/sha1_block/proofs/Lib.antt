pub mod Chunks
pub mod Rounds
pub mod Schedule
