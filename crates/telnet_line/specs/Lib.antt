pub mod Line
pub mod Internal
pub mod Promise
