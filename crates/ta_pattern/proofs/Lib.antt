-- lemmas for the crates above
pub mod Agreeing
mod Common
