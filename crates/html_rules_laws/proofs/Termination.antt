-- Why every token is settled after so many turns, and modes that use one another's rules end.
pub mod Kinds
pub mod Matters
pub mod Ranks
pub mod Settled
pub mod Steps
pub mod Turns
pub mod Uses
