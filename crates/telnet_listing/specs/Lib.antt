pub mod Listing
pub mod Printed
pub mod Internal
pub mod Sample
