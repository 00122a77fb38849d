pub mod Numbers
pub mod Op
pub mod Test
pub mod Order
