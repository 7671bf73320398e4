pub mod Either
pub mod Firsts
pub mod Joined
pub mod Meaning
