pub mod Places
pub mod Fronts
pub mod Pieces
pub mod Noted
pub mod Around
pub mod Rows
