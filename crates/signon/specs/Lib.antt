pub mod Digits
pub mod Attempt
pub mod Verdict
pub mod Theorems
pub mod Reason
pub mod ReasonTheorems
