-- What is held at `Done` is the front of one item.
pub mod Completing
pub mod Markup
pub mod RawText
pub mod States
pub mod Tags
pub mod Text
