pub mod Lookups
pub mod Rules
pub mod Sentences
pub mod Verdicts
pub mod Conditions
pub mod Reasons
pub mod Undefined
