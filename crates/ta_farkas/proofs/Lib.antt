-- lemmas for the crates above
pub mod Judging
pub mod Alike
mod Adding
mod Sums
mod Common
