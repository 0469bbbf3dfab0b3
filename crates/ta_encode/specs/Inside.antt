pub mod Counters
pub mod Draft
pub mod Firings
pub mod Lines
pub mod Rules
pub mod Sparse
