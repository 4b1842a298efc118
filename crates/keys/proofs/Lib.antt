pub mod Columns
pub mod Rows
pub mod Walks
pub mod Places
pub mod Ranks
pub mod Measures
