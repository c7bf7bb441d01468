pub mod Plain
pub mod Texts
pub mod Children
pub mod Parents
pub mod Walks
pub mod Forests
pub mod Reparented
pub mod PutTexts
pub mod TemplateContents
pub mod Trees
pub mod ErrorsApart
pub mod TextPieces
pub mod NamespaceNames
pub mod AttributeIndex
pub mod DistinctNames
pub mod Permutations
pub mod RisingTexts
pub mod PlainTexts
pub mod KnownTexts
mod PlacedNames
mod LongNames
mod LoweredNames
pub mod WholeTrees
pub mod WalkCalls
