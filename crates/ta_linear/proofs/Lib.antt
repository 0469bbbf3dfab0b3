-- lemmas for the crates above
pub mod GcdLemmas
pub mod Floor
pub mod TermLemmas
pub mod NormalTerms
pub mod RangeSum
pub mod Farkas
pub mod RowsAlike
mod SmallProduct
mod LeastTerm
mod SumLemmas
mod Common
