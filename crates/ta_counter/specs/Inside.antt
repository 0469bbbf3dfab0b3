pub mod Filling
pub mod Guards
