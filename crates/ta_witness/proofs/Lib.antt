-- lemmas for the crates above
pub mod WitnessOnce
mod Lookups
pub mod Backward
pub mod Marks
pub mod Starts
pub mod Witnesses
pub mod Making
mod Endings
mod Common
pub mod Ends
pub mod Resting
pub mod OwnRuns
pub mod LastMark
pub mod Once
mod Giving
mod RestCommon
mod Mapped
mod Listing
mod Firing
mod Walking
mod Sorting
mod Marking
mod Positions
pub mod Showing
pub mod MomentOnce
pub mod MomentResting
pub mod EndMark
pub mod Counting
pub mod Encoding
mod Lining
mod Placing
mod Evaluating
mod Ordering
mod MakingRuns
pub mod Bridging
