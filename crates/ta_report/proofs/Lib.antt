-- lemmas for the crates above
pub mod Picks
pub mod Printed
mod Distinct
pub mod ReadBack
mod JsonSayings
pub mod JsonItems
pub mod Tellings
pub mod CheckSayings
mod Common
mod Showing
mod Tells
mod Sums
pub mod FileTells
mod UnknownNames
pub mod JsonLines
pub mod SameNames
