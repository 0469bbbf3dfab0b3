pub mod Columns
pub mod Blocks
pub mod Faults
