-- lemmas for the crates above
pub mod Booleans
pub mod Options
pub mod Naturals
pub mod Integers
pub mod Lists
pub mod Members
pub mod Pairwise
pub mod Each
pub mod Ranges
pub mod Sums
pub mod Totals
pub mod Times
pub mod Bits
pub mod LongMasks
pub mod ByteLists
pub mod DecimalDigits
pub mod Digits
pub mod Searches
mod Common
