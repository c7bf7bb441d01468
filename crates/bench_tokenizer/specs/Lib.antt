pub mod Counts
pub mod FirstBytes
pub mod Readings
pub mod Runs
