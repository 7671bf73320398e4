pub mod Turning
pub mod Resting
pub mod Fitting
