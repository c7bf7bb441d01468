pub mod Bytes
pub mod Contexts
pub mod Mades
pub mod Rows
pub mod Spots
pub mod Texts
pub mod Tokens
pub mod Raw
