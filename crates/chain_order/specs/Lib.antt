pub mod Member
pub mod Sorted
pub mod Chain
pub mod Ordered
