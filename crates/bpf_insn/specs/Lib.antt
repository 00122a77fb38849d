pub mod Operation
pub mod Operations
pub mod Insn
pub mod Form
pub mod Table
pub mod Code
