-- Definitions that only the contracts of private functions speak of.
pub mod Found
pub mod Texts
pub mod Turns
