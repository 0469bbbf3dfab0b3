-- lemmas for the crates above
pub mod ScopeAnswers
pub mod Reaching
pub mod Judging
pub mod ArrangedOnce
pub mod Arranging
pub mod ArrangedLaws
mod Cycles
mod LongerCycles
pub mod OrderLaws
mod FirstPaths
mod Stepping
mod Taken
mod Circulations
mod Listing
mod Common
