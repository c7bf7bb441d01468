pub mod Wide
pub mod Reading
pub mod TableFile
pub mod TableFault
