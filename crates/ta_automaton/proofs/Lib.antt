-- lemmas for the crates above
pub mod Thresholds
pub mod Numbered
pub mod Moves
pub mod Fire
pub mod Trails
pub mod RunLaws
pub mod ShortNames
pub mod Onward
pub mod Circuits
pub mod Rearranged
pub mod Narrows
mod Examples
mod Common
