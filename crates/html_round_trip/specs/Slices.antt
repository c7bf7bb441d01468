pub mod Forms
pub mod Slices
pub mod Laws
pub mod Rows
pub mod PlainForms
