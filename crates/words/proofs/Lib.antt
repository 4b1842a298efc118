pub mod Tenfold
pub mod Pairs
pub mod Texts
pub mod Fronts
pub mod Splits
pub mod Worths
