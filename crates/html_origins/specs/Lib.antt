pub mod Allowed
pub mod KeptTokens
pub mod Origin
