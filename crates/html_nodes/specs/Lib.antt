pub mod Below
pub mod Looks
pub mod Laws
pub mod Calls
