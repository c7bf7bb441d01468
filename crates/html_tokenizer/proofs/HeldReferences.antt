-- References that are held.
pub mod Ambiguous
pub mod AmbiguousStates
pub mod Faults
pub mod Holding
pub mod InText
pub mod InValues
pub mod Parts
pub mod Readings
pub mod Values
