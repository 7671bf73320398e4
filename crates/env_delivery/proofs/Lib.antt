pub mod Handing
pub mod Meaning
