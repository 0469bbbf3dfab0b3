-- lemmas for the crates above
pub mod Drafts
pub mod Counting
pub mod Switch
pub mod InOrder
pub mod Prefixes
pub mod Theorems
pub mod CodeRows
pub mod Asking
pub mod Preorders
pub mod Marking
pub mod Appending
pub mod Forward
pub mod Singles
pub mod Whole
pub mod Running
pub mod Changes
pub mod Sparse
mod CounterRows
mod Adding
pub mod Smallness
mod Masked
mod Blocks
mod Combine
pub mod Moments
mod State
pub mod Start
mod RowSums
mod Reorder
pub mod Safety
pub mod Segment
pub mod Values
mod Unwind
pub mod Begin
pub mod Starts
pub mod Realize
pub mod Fallen
mod Naming
pub mod Samples
pub mod SystemsExist
pub mod Ended
pub mod SameSystems
mod Common
pub mod Beginning
pub mod Ranges
pub mod RowCounts
pub mod FramesKept
pub mod FramesParts
mod FramesLeft
mod FramesShared
pub mod TreesLeft
mod CursorCommon
