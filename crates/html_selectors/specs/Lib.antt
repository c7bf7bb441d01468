pub mod Columns
pub mod Order
pub mod Relatives
pub mod Kinds
pub mod Direct
