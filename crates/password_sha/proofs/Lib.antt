pub mod Texts
pub mod Unicode
pub mod Messages
