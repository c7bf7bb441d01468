pub mod Planting
pub mod Shown
pub mod PlainTrees
