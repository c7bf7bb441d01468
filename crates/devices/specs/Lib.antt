pub mod Devices
pub mod MemReader
pub mod MemWriter
pub mod Schedule
pub mod VecWriter
