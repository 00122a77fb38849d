pub mod Command
pub mod Finding
pub mod Given
pub mod Names
pub mod Replay
pub mod Words
