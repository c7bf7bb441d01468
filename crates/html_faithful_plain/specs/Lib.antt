pub mod Plain
pub mod PlainHoles
pub mod TemplateRows
pub mod Template
