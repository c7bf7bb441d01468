pub mod Elements
pub mod Grammar
pub mod Laws
pub mod Rows
pub mod Frames
