pub mod Profile
pub mod Table
pub mod Lookup
pub mod Theorems
