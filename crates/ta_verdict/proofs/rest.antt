-- lemmas for the crates above
pub mod CertificatesOnce
pub mod CertificatesMade
pub mod VerdictsOnce
pub mod TextsAlike
mod RestsSolved
pub mod VerdictsTold
pub mod QuietRuns
pub mod QuietTold
pub mod RestSaid
mod VerdictsMade
mod Drafting
mod Common
