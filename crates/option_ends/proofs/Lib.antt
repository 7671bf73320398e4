pub mod Reached
pub mod Course
pub mod Agreement
pub mod Attained
pub mod Turns
pub mod Whole
