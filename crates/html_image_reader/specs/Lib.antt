pub mod Placing
pub mod Alike
