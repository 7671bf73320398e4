pub mod Lists
pub mod Reading
pub mod Theorems
pub mod Internal
