pub mod Offers
pub mod Own
