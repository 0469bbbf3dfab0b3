-- lemmas for the crates above
pub mod Lasting
mod Following
pub mod Searches
mod Behind
mod Heads
pub mod Accepting
mod LeafFaults
mod Reasons
mod Refusing
pub mod OneFault
mod Pieces
pub mod Answering
mod Leaves
mod Picking
mod JudgingNodes
mod JudgingProofs
mod JudgingHeads
pub mod OwnPatterns
mod Common
