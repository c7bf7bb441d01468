pub mod Spelled
pub mod Climbing
pub mod Following
pub mod Writing
pub mod Items
pub mod Walking
