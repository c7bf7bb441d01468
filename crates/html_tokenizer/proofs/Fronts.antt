-- What is taken from the front of the input at once.
pub mod Ahead
pub mod Attributes
pub mod Kinds
pub mod Lines
pub mod Moves
pub mod References
pub mod Runs
pub mod Tags
pub mod Texts
pub mod Whole
