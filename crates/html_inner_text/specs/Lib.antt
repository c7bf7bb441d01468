pub mod Styles
pub mod Items
pub mod InnerText
pub mod Walk
