mod Arranging
pub mod Begins
pub mod Faults
pub mod Fronts
pub mod Longest
pub mod Matches
pub mod NamedRows
pub mod Names
pub mod Orders
mod Repeats
pub mod Spelled
mod TableFaults
pub mod TableLaws
pub mod TableValues
pub mod WholeNames
mod Worked
