pub mod Solving
pub mod Sought
pub mod Parts
pub mod Counted
pub mod Whole
pub mod Showing
