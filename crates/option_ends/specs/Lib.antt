pub mod Ends
pub mod Agreement
pub mod Replay
pub mod Internal
