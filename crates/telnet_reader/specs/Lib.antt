pub mod Internal
pub mod Promise
