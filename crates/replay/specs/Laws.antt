-- Laws, for proofs. No contract cites these files.
pub mod Planes
pub mod Put
