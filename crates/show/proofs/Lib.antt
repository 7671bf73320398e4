pub mod Digits
pub mod Placing
