pub mod Separators
pub mod Halves
