-- Laws, for proofs. No contract cites these files.
pub mod Number
