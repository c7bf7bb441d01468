-- How a function of a state keeps what is to come.
pub mod AllRefused
pub mod Going
pub mod Keeping
pub mod Lawful
pub mod Lines
pub mod Readings
pub mod RefusedReadings
pub mod Runs
pub mod Telling
pub mod TokenEnds
