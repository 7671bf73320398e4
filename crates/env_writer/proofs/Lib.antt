pub mod Writing
pub mod WritingRecords
pub mod WritingAnswer
pub mod Meaning
