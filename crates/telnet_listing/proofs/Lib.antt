pub mod Sized
pub mod Lines
pub mod Room
pub mod Sample
