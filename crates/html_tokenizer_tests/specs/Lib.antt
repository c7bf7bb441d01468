pub mod TestSinks
