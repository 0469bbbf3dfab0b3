-- lemmas for the crates above
pub mod VerdictsMade
pub mod VerdictsSaid
pub mod VerdictsOnce
pub mod DraftsMade
mod TargetsMade
pub mod JudgedSoFar
mod MomentVerdicts
pub mod CertificatesMade
pub mod CertificatesOnce
pub mod SamplesMade
mod Common
