mod Rising
pub mod Feeds
pub mod CutAnywhere
mod Parsers
mod ErrorsTold
mod FragmentsBegun
mod Alike
mod NoRefusal
