pub mod SetBits
pub mod SetRows
pub mod Classes
pub mod Stops
pub mod Given
pub mod ElementNames
pub mod Renaming
