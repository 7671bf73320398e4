pub mod Deciding
pub mod Payloads
