pub mod Numbers
pub mod Columns
pub mod Bytes
pub mod Packs
pub mod ReadPages
pub mod Laws
pub mod Edits
