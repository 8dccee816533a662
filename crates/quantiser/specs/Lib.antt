pub mod Standard
pub mod Quant
pub mod Answer
pub mod AnnexD
pub mod Code
pub mod Laws
