pub mod Variable
pub mod Fields
pub mod Read
pub mod Write
pub mod Numbers
pub mod Before
pub mod Theorems
pub mod Boundaries
