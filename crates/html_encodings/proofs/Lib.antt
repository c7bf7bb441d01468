pub mod AsciiBytes
pub mod Texts
pub mod Readings
pub mod Scans
