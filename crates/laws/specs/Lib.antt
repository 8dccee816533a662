pub mod Wrap
pub mod Rows
pub mod Plane
pub mod Ceiling
pub mod Code
pub mod Laws
