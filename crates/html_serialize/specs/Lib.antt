pub mod Puts
pub mod Bytes
pub mod KnownTags
pub mod Serializing
pub mod Laws
