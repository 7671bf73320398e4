pub mod Sending
pub mod Places
pub mod Telling
pub mod Hearing
