-- lemmas for the crates above
pub mod PivotLaws
pub mod Divide
pub mod RowFacts
pub mod MergedRow
pub mod Keeps
pub mod ReduceFacts
pub mod ProperFacts
pub mod DenseFacts
pub mod SlackRows
pub mod SlackDictionary
pub mod PushedRows
pub mod ExtendFacts
pub mod Dot
mod CellSteps
pub mod Unique
mod RowSteps
mod PivotParts
mod EnterSoFar
mod LeastSoFar
mod FillSteps
pub mod Primitive
mod Mapped
mod EqualRows
mod Common
