pub mod Responded
