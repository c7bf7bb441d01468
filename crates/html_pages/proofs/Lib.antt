pub mod Parsed
mod Again
mod Leads
pub mod Emitted
mod Takings
mod Contexts
