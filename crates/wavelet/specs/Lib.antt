pub mod Lifting
pub mod Filters
pub mod Planes
pub mod Depth
pub mod Pad
pub mod RowCall
pub mod Code
pub mod Laws
