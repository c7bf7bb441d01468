-- Why errors are only counted on, and not looked at.
pub mod LouderActions
pub mod LouderAdoption
pub mod LouderSteps
pub mod LouderTurns
pub mod Rises
