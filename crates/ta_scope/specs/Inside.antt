pub mod Distances
pub mod Listed
pub mod Reached
pub mod Taking
