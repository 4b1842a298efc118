pub mod Pages
pub mod Free
pub mod Leaf
pub mod Faults
pub mod Places
pub mod Checks
pub mod Cuts
