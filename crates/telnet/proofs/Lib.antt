pub mod Stretch
pub mod Unroll
pub mod RoundTrip
pub mod Writable
pub mod Between
pub mod Refusals
pub mod Faults
