pub mod Reading
pub mod Texts
pub mod Turning
