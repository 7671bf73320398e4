pub mod Turn
pub mod Stage
