-- lemmas for the crates above
pub mod Resting
pub mod EndingLaws
pub mod EndingShapes
pub mod QuietResting
pub mod Deciding
mod QuietExample
mod PatternMasks
mod Heights
pub mod Moving
pub mod Solutions
pub mod RestSystems
mod Common
pub mod Prefixes
pub mod Bounds
pub mod Coming
pub mod Going
pub mod Extending
mod FairCommon
pub mod PatternWords
pub mod RestRows
pub mod ClaimWords
pub mod ClaimsShown
mod RestMasks
mod ClaimCommon
