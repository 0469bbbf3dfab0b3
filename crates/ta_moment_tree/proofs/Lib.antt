mod Passed
mod Reversed
mod Coming
mod Counting
mod Roots
mod Parts
mod Asked
mod Common
mod Forms
mod Sums
mod Adding
pub mod Lists
mod Smallness
mod Starts
mod Vectors
pub mod Beginning
mod AddedFacts
pub mod Fitting
mod PartsAtEnd
mod Copies
mod Sizes
pub mod ComingFacts
pub mod Cutting
pub mod Systems
