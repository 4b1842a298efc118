pub mod Digits
pub mod Numbers
pub mod Tens
pub mod Hex
pub mod Plans
pub mod Lines
pub mod Values
