pub mod SetNumbers
pub mod FittingRows
pub mod UnknownNames
mod SmallNumbers
pub mod BitsOfSets
pub mod StandardBits
mod KindsOfSpaces
pub mod RowsOfSets
pub mod AnyCase
pub mod Runs
pub mod SpaceRuns
pub mod FirstBytes
pub mod SameNames
pub mod HeldNames
pub mod Renamed
