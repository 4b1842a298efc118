pub mod Fronts
pub mod Cuts
pub mod Looks
pub mod HalfWay
