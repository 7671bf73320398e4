-- Definitions that only the contracts of private functions speak of.
pub mod Kinds
