-- Attributes of a tag.
pub mod Finished
pub mod Names
pub mod Readings
pub mod Values
