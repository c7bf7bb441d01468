pub mod Rules
pub mod PolicyText
pub mod Rows
pub mod PolicyFile
pub mod ReadyRules
pub mod Written
pub mod Bounded
