pub mod Agreement
pub mod Apart
pub mod Every
pub mod Text
pub mod Held
pub mod Order
