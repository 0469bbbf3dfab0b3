-- lemmas for the crates above
pub mod Units
pub mod PivotsKeep
pub mod ModestBounds
pub mod SlackValues
pub mod SlackTrue
pub mod RowsRevised
pub mod NegativeLeaves
pub mod UnitRow
mod UnknownRowSteps
mod BasicLists
mod EnterSoFar
mod GrownRows
mod PivotedRows
mod SlackFacts
pub mod ScaleFacts
pub mod RowValues
pub mod ShortFacts
pub mod GrownHolds
pub mod RevisedFacts
pub mod RevisedLaws
pub mod Bounded
pub mod NarrowFacts
mod RowCellFacts
mod Halves
mod Common
