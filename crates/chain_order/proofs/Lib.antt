pub mod Order
pub mod Chains
pub mod Ranking
