pub mod Pages
pub mod Pieces
pub mod ReadBack
pub mod Forbidden
