-- Definitions that only the contracts of private functions speak of.
pub mod Phrase
pub mod Put
