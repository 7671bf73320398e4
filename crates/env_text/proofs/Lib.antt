pub mod Scanning
pub mod Standing
pub mod Copying
