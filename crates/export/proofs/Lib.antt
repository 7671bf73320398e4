pub mod Numbered
pub mod Named
pub mod KindNames
