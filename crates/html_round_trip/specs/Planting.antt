pub mod Planted
pub mod Laws
