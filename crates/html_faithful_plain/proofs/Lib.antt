pub mod Forms
pub mod Stands
pub mod Tags
pub mod Elements
pub mod Walks
pub mod PlainHoles
pub mod Template
pub mod Frames
