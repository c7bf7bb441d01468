pub mod WideBytes
pub mod Whole
pub mod Rows
pub mod Utf8
