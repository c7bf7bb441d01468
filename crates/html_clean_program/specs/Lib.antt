pub mod Lines
pub mod Policies
pub mod Printing
pub mod Program
pub mod Words
