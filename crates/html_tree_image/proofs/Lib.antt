mod Parts
mod Records
pub mod Same
