-- lemmas of this crate
pub mod Parsing
pub mod LinesRead
pub mod Streaming
pub mod Written
pub mod CertLines
pub mod Writing
pub mod Examples
pub mod Standing
mod Common
