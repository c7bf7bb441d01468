pub mod Fronts
mod Goings
mod Marks
mod Takings
