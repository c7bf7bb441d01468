pub mod CharRefs
pub mod HeldChars
pub mod Input
pub mod Keywords
pub mod Refusals
pub mod Words
