pub mod Tables
pub mod Blocks
pub mod Schedule
pub mod Cipher
pub mod Theorems
