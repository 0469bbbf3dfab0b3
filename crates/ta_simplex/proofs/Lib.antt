-- lemmas for the crates above
pub mod Choose
pub mod RunLemmas
pub mod WholeLemmas
pub mod FewMultipliers
pub mod MultiplierCoefficients
pub mod DeterminedEnds
mod Basic
mod Bland
mod Moments
mod Ends
mod LeafLaws
mod VertexLemmas
pub mod SlotLemmas
mod ValueLemmas
mod LeafLemmas
mod Widening
mod Extended
mod Prefixes
mod FollowLemmas
mod RunSteps
mod FullBranchLemmas
pub mod RunEndings
pub mod SystemEnds
mod DeterminedSteps
mod DeterminedMultipliers
mod DeterminedValues
mod DeterminedTableau
mod Common
mod RevisedGrowth
mod RevisedSteps
mod RevisedSlots
mod RevisedBranchLemmas
