-- lemmas for the crates above
pub mod Listed
pub mod Past
pub mod Pushes
pub mod Lists
pub mod Pairs
pub mod Counts
pub mod Tasks
mod Common
