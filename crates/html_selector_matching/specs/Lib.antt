pub mod Around
pub mod Simples
pub mod Selects
