-- lemmas for the crates above
pub mod Scans
pub mod Counting
pub mod Steps
pub mod SumSteps
pub mod PrintSteps
pub mod UniqueTokens
pub mod NoFault
mod Gaps
mod Words
mod SumExits
mod ListSteps
mod ClauseSteps
mod LegalTrees
mod PrintedTokens
mod ReadBack
mod UniqueTrees
mod TextTokens
pub mod BuiltSums
mod BuiltTrees
pub mod TextTrees
mod Common
mod Parsing
mod Halting
mod FileReady
mod FileSpans
mod FileCounts
mod Answered
mod FileSteps
