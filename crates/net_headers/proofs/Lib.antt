pub mod Numbers
pub mod Walk
pub mod Longer
pub mod Tagged
pub mod Chain
