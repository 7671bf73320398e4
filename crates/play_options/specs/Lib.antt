pub mod Internal
pub mod Negotiated
