pub mod Runs
pub mod States
pub mod Places
pub mod Laws
pub mod Forms
pub mod ReadBack
pub mod Rows
