-- lemmas for the crates above
pub mod WrittenSoFar
pub mod CallLemmas
mod Alike
mod Distinct
mod Endings
mod Handed
mod PieceRefused
mod ReadSoFar
mod WithFile
mod Walks
mod Common
pub mod Compared
pub mod Clauses
pub mod Views
pub mod Read
pub mod Spared
mod Parted
pub mod PiecesSeen
mod Pieces
mod ReadCalls
mod ShellCommon
mod OutputCalls
mod Settling
mod Refusing
mod Ended
pub mod StagedMore
mod StagedPut
