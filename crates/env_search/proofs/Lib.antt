pub mod Found
pub mod SearchSteps
