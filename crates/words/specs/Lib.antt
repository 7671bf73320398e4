pub mod Word
pub mod BigEndian
pub mod Blocks
pub mod Padding
pub mod Internal
