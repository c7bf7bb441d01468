-- Tags, from "<" to their end.
pub mod Keeping
pub mod Opens
pub mod Readings
pub mod States
pub mod TagEnds
