pub mod Job
pub mod Code
pub mod Laws
