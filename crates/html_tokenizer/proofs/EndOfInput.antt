-- What the end of the input makes of what is held.
pub mod Failed
pub mod Keeping
pub mod Markup
pub mod References
pub mod Tags
pub mod Text
pub mod Tokens
pub mod Emitted
