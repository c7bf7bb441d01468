pub mod Documents
pub mod Forms
pub mod Reads
pub mod Slices
pub mod Written
pub mod Pages
