-- lemmas for the crates above
mod Pairs
pub mod Chains
pub mod Placing
mod Gathering
pub mod Joining
mod Inserting
pub mod Ordering
pub mod Implying
pub mod Copying
pub mod PairNumbers
mod Common
