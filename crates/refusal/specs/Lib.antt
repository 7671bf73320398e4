pub mod Refusal
pub mod RefusedBy
pub mod Written
