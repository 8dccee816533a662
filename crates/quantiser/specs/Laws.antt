-- Laws, for proofs. No contract cites these files.
pub mod Cell
pub mod Cap
pub mod Sign
pub mod Step
pub mod Length
pub mod Quant
pub mod Rises
