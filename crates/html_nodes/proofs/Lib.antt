pub mod Levels
pub mod Walking
pub mod Distinct
mod Keeping
