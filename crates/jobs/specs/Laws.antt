-- Laws, for proofs. No contract cites these files.
pub mod Print
pub mod Parse
pub mod Job
