-- Laws, for proofs. No contract cites these files.
pub mod Integer
pub mod Machine
pub mod Wrap
pub mod Rows
pub mod Laid
pub mod Chunks
pub mod Window
pub mod Plane
