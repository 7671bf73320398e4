pub mod Marked
pub mod Turn
