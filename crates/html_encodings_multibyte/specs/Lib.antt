pub mod Indexes
pub mod Pairs
pub mod Chinese
pub mod Japanese
pub mod Iso2022Jp
pub mod Every
pub mod Texts
pub mod Rows
