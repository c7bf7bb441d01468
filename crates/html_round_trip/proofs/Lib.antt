pub mod Planting
pub mod ReadBack
pub mod Slices
