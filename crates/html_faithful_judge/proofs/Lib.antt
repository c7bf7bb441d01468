pub mod Contexts
mod Doing
mod Emitted
mod FewRows
mod Foreign
mod MadeByRows
mod Turns
mod Words
mod RawBytes
mod Lacking
mod Marks
pub mod LoweredNames
