pub mod FirstRows
pub mod LentRows
pub mod WalkedRows
