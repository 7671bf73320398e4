pub mod internal
pub mod Promise
