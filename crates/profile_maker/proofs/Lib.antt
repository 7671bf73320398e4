pub mod Parts
pub mod Formed
pub mod Answers
pub mod Goodness
