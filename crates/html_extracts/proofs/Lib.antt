pub mod Listing
pub mod Spelled
