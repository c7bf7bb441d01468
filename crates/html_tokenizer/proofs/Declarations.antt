-- What begins with "<!": comments and doctypes.
pub mod Comments
pub mod DoctypeKeywords
pub mod Doctypes
pub mod Openings
