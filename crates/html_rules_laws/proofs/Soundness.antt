-- Why every token keeps a state sound for text.
pub mod Acts
pub mod HeadAgain
pub mod Scan
pub mod Moves
pub mod Rows
pub mod Specials
pub mod Tokens
pub mod Steps
pub mod Sink
