pub mod Putting
pub mod Marks
pub mod EscapedBytes
pub mod KnownTags
pub mod TagBytes
pub mod Steps
pub mod Runs
pub mod Escapes
