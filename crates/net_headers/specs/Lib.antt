pub mod Bytes
pub mod Transport
pub mod Ipv4
pub mod Ipv6
pub mod Ethernet
pub mod Headers
