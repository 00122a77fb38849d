pub mod Point
pub mod Key
pub mod Keys
pub mod Capture
