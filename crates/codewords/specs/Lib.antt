pub mod Bit
pub mod CodeWord
pub mod Read
pub mod Bytes
pub mod Code
pub mod Laws
