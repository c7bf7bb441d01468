pub mod Srcset
