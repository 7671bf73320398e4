pub mod Bytes
pub mod Ascii
pub mod Decimal
pub mod Lent
pub mod Promise
pub mod Same
pub mod Part
pub mod Find
