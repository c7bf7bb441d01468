-- Raw text, its end tag, and the text of scripts.
pub mod EndTags
pub mod FittingEnds
pub mod Names
pub mod Scripts
pub mod States
