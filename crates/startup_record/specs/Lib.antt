pub mod Promise
pub mod Internal
