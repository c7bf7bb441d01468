pub mod Again
pub mod Decoding
pub mod Meanings
mod Fragments
pub mod SameTrees
