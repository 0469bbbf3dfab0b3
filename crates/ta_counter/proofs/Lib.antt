-- lemmas for the crates above
pub mod Rows
pub mod Models
pub mod Starting
pub mod Stepping
pub mod Adding
mod Filling
mod Firing
mod Updating
pub mod Moving
mod Guarding
pub mod Holdings
mod Common
