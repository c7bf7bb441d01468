pub mod DeviceLemmas
pub mod Fronts
