pub mod Elements
pub mod GoOn
pub mod Pieces
pub mod SafeTags
