pub mod Chosen
pub mod Cells
