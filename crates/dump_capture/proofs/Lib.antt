pub mod Putting
pub mod Knowing
pub mod Undoing
