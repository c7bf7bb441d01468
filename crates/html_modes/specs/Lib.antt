pub mod Tables
pub mod FirstRows
pub mod FamilySets
pub mod NotedRows
