pub mod Policy
pub mod Rule
pub mod Rules
pub mod Table
pub mod Verdict
