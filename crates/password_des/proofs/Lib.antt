pub mod Padding
pub mod Identifier
pub mod Tokens
