pub mod Beside
pub mod Lines
pub mod Trying
pub mod Objects
