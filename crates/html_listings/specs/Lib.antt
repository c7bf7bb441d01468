pub mod Json
pub mod Links
pub mod Listings
pub mod Selected
