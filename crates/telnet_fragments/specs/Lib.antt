pub mod Call
pub mod Promise
pub mod Joined
pub mod Chain
pub mod Theorems
