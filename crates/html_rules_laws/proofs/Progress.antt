-- Why no token of a text is refused, and each mode has a row for each.
pub mod EndTags
pub mod Named
pub mod Outside
pub mod ReachedRows
pub mod Texts
pub mod TokensTaken
pub mod TotalRows
pub mod UsableTokens
