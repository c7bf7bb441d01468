-- What is owed of errors, and what is told.
pub mod BeforeCharacters
pub mod Owing
pub mod RefusedErrors
pub mod Rises
