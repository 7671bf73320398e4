pub mod Put
pub mod Few
