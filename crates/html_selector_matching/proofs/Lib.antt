pub mod Lines
mod Spelled
mod Siblings
mod Needles
