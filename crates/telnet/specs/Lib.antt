pub mod Event
pub mod Write
pub mod Read
pub mod Whole
pub mod Record
pub mod Theorems
