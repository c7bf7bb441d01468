pub mod Read
pub mod Cuts
pub mod Documents
pub mod Laws
