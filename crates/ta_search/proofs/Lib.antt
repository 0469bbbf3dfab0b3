-- lemmas of this crate, and for the crates above
pub mod HoleLines
pub mod Bodies
pub mod Adding
pub mod Heads
mod HasAnswers
pub mod OneFault
mod VectorsNumbered
mod Trying
mod FoundLast
mod OneEnd
mod Outcoming
mod SearchTexts
mod SearchItems
mod VectorsOrdered
mod Common
