-- What is fed: characters, pieces and calls, one after the other.
pub mod Chains
pub mod Characters
pub mod Pieces
