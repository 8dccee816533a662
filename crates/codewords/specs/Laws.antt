-- Laws, for proofs. No contract cites these files.
pub mod Bit
pub mod Code
pub mod Word
pub mod Byte
pub mod Read
pub mod Writer
