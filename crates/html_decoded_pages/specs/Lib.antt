pub mod Changing
pub mod Pauses
pub mod Parsing
pub mod DecodedPages
