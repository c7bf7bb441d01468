pub mod Answers
pub mod Reports
pub mod Calls
pub mod Trees
pub mod Decoding
pub mod Images
pub mod Policies
pub mod Errors
