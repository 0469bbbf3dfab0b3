pub mod Checks
pub mod Values
pub mod Configs
pub mod Starts
pub mod Guards
pub mod Holding
pub mod Steps
pub mod Inside
