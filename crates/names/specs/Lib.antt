pub mod Range
pub mod Padding
pub mod Name
pub mod Ebcdic
pub mod Order
pub mod Theorems
