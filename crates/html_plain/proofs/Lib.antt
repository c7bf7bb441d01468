pub mod Names
pub mod Agreement
pub mod WrittenForms
pub mod Parts
pub mod Frames
pub mod Bytes
