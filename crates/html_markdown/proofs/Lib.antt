pub mod Describing
pub mod Fencing
