pub mod Steps
pub mod Turns
pub mod Texts
pub mod Places
pub mod ReadBack
pub mod Again
pub mod ByText
