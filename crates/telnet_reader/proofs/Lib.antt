pub mod Places
pub mod Carried
