pub mod Steps
pub mod Cuts
pub mod Chaining
pub mod Closing
pub mod Ending
