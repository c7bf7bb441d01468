pub mod Description
pub mod Fence
pub mod Laws
