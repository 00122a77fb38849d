pub mod Bytes
pub mod Digits
pub mod Lemmas
pub mod SignExtension
pub mod TwosComplement
