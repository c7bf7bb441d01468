pub mod Flow
pub mod Tables
pub mod Frame
